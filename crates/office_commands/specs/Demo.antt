-- The set-up of the demonstration.
use Rattle.std.specs.Prelude.{◌≡◌, ℕ, Bool, true, List, [], ◌∷◌, codes}
use Rattle.edi_syntax.specs.Bytes.{capital_a}
use Rattle.edi_messages.specs.{Codes.table_texts, declared.code.CodeTable.CodeTable, declared.codes.PartnerKind.PartnerKind}
use Rattle.edi_messages.specs.declared.codes.PartnerKind.TheVariants.{Gate, Line, Quay, Yard}
use Rattle.yard_core.specs.declared.plan.Block.{Block}
use Rattle.office_admission.specs.{Limits.most_visits, Setups.{SetupContent, setup_content}}
use Rattle.sqlite.specs.Steps.{over_memory}
use Rattle.office_desk.specs.{Answers.AnswersNext, Desks.StandsFor}
use Rattle.office_commands.specs.{Opening.{MemoryDesk, OpensEmpty}, declared.demo.DemoFault.DemoFault, declared.demo.DemoFault.TheVariants.{Store, Stream}}
use Rattle.office_replies.specs.{declared.deliver.Worst.Worst, Delivering.AreAnswered, Streams.{PortBytes, Streamed, Began, Delivered}}
use Rattle.office_replies.specs.declared.stream.StreamFault.TheVariants.{Read, Write, Turns}

-- gate-in, gate-out, yard-move, discharge-list, load-list, discharge-report and load-report
abbrev pub demo_codes : List (List ℕ)
demo_codes = codes "34" ∷ codes "36" ∷ codes "YMV" ∷ codes "43" ∷ codes "45" ∷ codes "44" ∷ codes "46" ∷ []

-- two hauliers, a line, a quay crew and the yard's own
abbrev pub demo_partners : List (List ℕ × PartnerKind)
demo_partners = (codes "HAULA", Gate) ∷ (codes "HAULB", Gate) ∷ (codes "LINEA", Line) ∷ (codes "QUAY1", Quay)
    ∷ (codes "YARD1", Yard) ∷ []

-- block A: four odd bays, two rows, three tiers
abbrev pub demo_blocks : List Block
demo_blocks = record { letter = capital_a; bays = 4; rows = 2; tiers = 3 } ∷ []

-- all that the demonstration's set-up says, with a table of codes
abbrev pub demo_content : CodeTable → SetupContent
demo_content table = record {
  terminal = codes "TERM1";
  codes = table;
  partners = demo_partners;
  blocks = demo_blocks;
  visit_limit = most_visits;
}

-- it says what the demonstration's set-up says
pub record IsDemo (content : SetupContent) : Type 0 where
  pub codes_are : table_texts content.codes ≡ demo_codes
  pub is : content ≡ demo_content content.codes

-- a desk of the demonstration, to which nothing has been delivered
pub record OpensDemo (desk : MemoryDesk) : Type 0 where
  pub content : SetupContent
  pub is_demo : IsDemo content
  pub opens : OpensEmpty content desk

-- What was read is cut into interchanges, each answered by a line at its place, from such a desk on.
pub record DemoRuns (ports : PortBytes) (worst : Worst) : Type 0 where
  pub opening : MemoryDesk
  pub desk : MemoryDesk
  pub opens : OpensDemo opening
  pub streamed : Streamed (AreAnswered (StandsFor over_memory (setup_content opening.setup))
      (AnswersNext (setup_content opening.setup)) [] desk) ports worst

-- All interchanges of what was read were delivered to such a desk and answered by their lines.
pub record DemoBegan (ports : PortBytes) : Type 0 where
  pub opening : MemoryDesk
  pub desk : MemoryDesk
  pub opens : OpensDemo opening
  pub began : Began (AreAnswered (StandsFor over_memory (setup_content opening.setup))
      (AnswersNext (setup_content opening.setup)) [] desk) ports

-- They were delivered to such a desk as far as lines could be written, of which the last was cut short.
pub record DemoDelivered (ports : PortBytes) : Type 0 where
  pub opening : MemoryDesk
  pub desk : MemoryDesk
  pub opens : OpensDemo opening
  pub delivered : Delivered (AreAnswered (StandsFor over_memory (setup_content opening.setup))
      (AnswersNext (setup_content opening.setup)) [] desk) ports

-- What was done before a fault. If the desk did not open, nothing was read or written. A read that failed leaves what
-- was answered before, and so do too many reads. So does a write that failed, but for the line that it cut short.
abbrev pub DemoLeft : PortBytes → DemoFault → Type 0
DemoLeft ports (Store fault) =
    (ports.left_after ≡ ports.left_before) × (ports.written_after ≡ ports.written_before)
DemoLeft ports (Stream Read) = DemoBegan ports
DemoLeft ports (Stream Turns) = DemoBegan ports
DemoLeft ports (Stream Write) = DemoDelivered ports

-- whether a reader and a writer have failed, before and after
pub record PortFailures : Type 0 where
  pub read_before : Bool
  pub read_after : Bool
  pub write_before : Bool
  pub write_after : Bool

abbrev pub port_failures : (read_failed read_failed' write_failed write_failed' : Bool) → PortFailures
port_failures read_failed read_failed' write_failed write_failed' =
    record {
      read_before = read_failed;
      read_after = read_failed';
      write_before = write_failed;
      write_after = write_failed';
    }

-- a fault of the reader or the writer comes only if it has failed and the other has not, and any other only if
-- neither has
abbrev pub IsOfPorts : PortFailures → DemoFault → Type 0
IsOfPorts ports (Store fault) =
    (ports.read_after ≡ ports.read_before) × (ports.write_after ≡ ports.write_before)
IsOfPorts ports (Stream Read) = (ports.read_after ≡ true) × (ports.write_after ≡ ports.write_before)
IsOfPorts ports (Stream Turns) =
    (ports.read_after ≡ ports.read_before) × (ports.write_after ≡ ports.write_before)
IsOfPorts ports (Stream Write) = (ports.write_after ≡ true) × (ports.read_after ≡ ports.read_before)
