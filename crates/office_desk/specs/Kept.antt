-- What a desk answers by what it keeps, whether or not events led to its rows.
use Rattle.std.specs.Prelude.{◌≡◌, ◌⊎◌, ℕ, ◌≤◌, ◌∷◌, List, Option, None, Some, Result, Ok, Err}
use Rattle.sqlite.specs.{Effect.Database, Held.state}
use Rattle.sqlite_trees.specs.declared.store.Store.{Ghosts}
use Rattle.edi_syntax.specs.{Interchange.{interchange_of, segments_in}, Envelope.header_of}
use Rattle.partner_core.specs.{Answers.{AnswerModel, Taken, Waiting, Clash, answer_by}, Deliveries.{Delivery, delivery}, Standings.standing_of}
use Rattle.partner_core.specs.{declared.runs.Standing.Standing, declared.runs.Standing.TheVariants.{Known, Other, Early, Next}}
use Rattle.terminal_core.specs.State.{TerminalState}
use Rattle.office_replies.specs.{Contents.content_of, declared.deliver.Fault.Fault, declared.deliver.Response.Response}
use Rattle.office_loading.specs.Closed.{ClosedContent, closed_content}
use Rattle.office_rows.specs.{Rows.Rows, Effects.with_waiting}
use Rattle.office_admission.specs.{Parties.parties_of, Setups.{SetupContent, setup_content}, Admission.admission, Refusals.{refusal_of, MayBeNotNow}}
use Rattle.office_tables.specs.{Answers.{HasUnfitReply, IsNextOf}, Faults.IsOfStoreOr, declared.table_fault.TableFault.TableFault}
use Rattle.office_tables.specs.declared.table_fault.TableFault.TheVariants.{Memory}
use Rattle.office_history.specs.{After.{machine_with, reply_in}, Cascade.{TakenContent, AreTakenFrom, text_in, texts_with, with_run}}
use Rattle.office_desk.specs.{Answers.{code_of, answer_by_model}, Offices.{DeskHolds, HoldsOffice}, declared.beside.Beside.Beside, declared.desk.Desk.Desk}
use Rattle.office_replies.specs.declared.deliver.Response.TheVariants as response

-- the rows of an office, and its terminal
pub record Office : Type 0 where
  pub rows : Rows
  pub terminal : TerminalState

-- ---- what a delivery makes of an office

-- it is taken, and the texts that become next by it; it is reported with its own reply
pub record IsRunTaken (content : SetupContent) (d : Delivery) (told : AnswerModel) (old new : Office) : Type 0 where
  pub first : TakenContent
  pub later : List TakenContent
  pub taken : AreTakenFrom d.partner (texts_with old.rows d.partner d.number d.text) d.number
      (machine_with content old.terminal) (first ∷ later) (machine_with content new.terminal)
  pub rows : new.rows ≡ with_run d.partner d.number d.text (first ∷ later) old.rows
  pub is_told : told ≡ Taken (Some first.reply)

-- how it stands to what is kept, and to its partner's next number
abbrev pub standing_in : Office → Delivery → (next : ℕ) → Standing
standing_in old d next = standing_of next d.number (text_in old.rows d.partner d.number) d.text

-- by that standing: what is used leaves the office, what is early is kept, and what is next is taken
abbrev pub TakesIn : Standing → SetupContent → Delivery → (next : ℕ) → AnswerModel → (old new : Office) → Type 0
TakesIn Known content d next told old new =
    (told ≡ answer_by Known next (reply_in old.rows d.partner d.number) None) × (new ≡ old)
TakesIn Other content d next told old new = (told ≡ Clash) × (new ≡ old)
TakesIn Early content d next told old new =
    (told ≡ Waiting next) × (new ≡ record old { rows = with_waiting d.partner d.number d.text old.rows })
TakesIn Next content d next told old new = (d.number ≡ next) × IsRunTaken content d told old new

-- ---- what is answered

-- the response to the partner with that code is what is to be reported of the delivery, and the office that it makes is
-- held
pub record AnswersByKept (closed : ClosedContent) (content : SetupContent) (d : Delivery) (code : List ℕ) (old : Office)
    (response : Response) (db : Database) (there : Option Beside) : Type 0 where
  pub next : ℕ
  pub is_next : IsNextOf d.partner old.rows next
  pub told : AnswerModel
  pub new : Office
  pub takes : TakesIn (standing_in old d next) content d next told old new
  pub answers : content_of response ≡ answer_by_model code d.number told
  pub holds : HoldsOffice closed content new.rows new.terminal db there

-- the number is closed, and the rows keep nothing under it
abbrev pub IsPutAway : ClosedContent → (partner number : ℕ) → Rows → Type 0
IsPutAway closed partner number rows =
    (number ≤ closed.last_closed partner) × (text_in rows partner number ≡ None)

-- the rows can't answer it: the reply that they keep under its number is no text, or it was put away
abbrev pub LacksAnswer : ClosedContent → (partner number : ℕ) → Rows → Type 0
LacksAnswer closed partner number rows = HasUnfitReply partner number rows ⊎ IsPutAway closed partner number rows

-- it is answered so, or the call failed and the office is held as it was: the store failed, or memory was refused, or
-- the rows can't answer it
abbrev pub AnswersOrStays : ClosedContent → SetupContent → Delivery → List ℕ → Office → Result Response TableFault →
    Database → Option Beside → Type 0
AnswersOrStays closed content d code old (Ok response) db there =
    AnswersByKept closed content d code old response db there
AnswersOrStays closed content d code old (Err fault) db there =
    IsOfStoreOr (LacksAnswer closed d.partner d.number old.rows) fault
    × HoldsOffice closed content old.rows old.terminal db there

-- ---- what a desk answers

-- a text that is refused is answered so, and the office stays; one that is admitted is answered by what is kept
abbrev pub AnswersAt : {S : Type 0} (g : Ghosts S) → Result (ℕ × ℕ) Fault → List ℕ → Office → Response → Desk S g →
    Type 0
AnswersAt g (Err fault) text old given desk =
    (content_of given ≡ refusal_of (parties_of desk.setup) (header_of (segments_in text)) fault)
    × DeskHolds g desk old.rows old.terminal
AnswersAt g (Ok place) text old given desk =
    AnswersByKept (closed_content desk.closed) (setup_content desk.setup) (delivery place.0 place.1 text)
    (code_of (parties_of desk.setup) place.0) old given (state g desk.conn).committed desk.beside

-- why that is answered NotNow, as the desk notes it: a refusal for lack of memory; what is admitted by its store too,
-- or because the rows can't answer it
abbrev pub IsNotedFor : ClosedContent → Result (ℕ × ℕ) Fault → Rows → Option TableFault → Type 0
IsNotedFor closed (Err refused) rows noted = noted ≡ Some Memory
IsNotedFor closed (Ok place) rows noted =
    (fault : TableFault) × (noted ≡ Some fault) × IsOfStoreOr (LacksAnswer closed place.0 place.1 rows) fault

-- what is delivered to a desk over that office is answered so, or NotNow if that may be, and the office stays
abbrev pub AnswersOver : {S : Type 0} (g : Ghosts S) → Office → List ℕ → Response → Desk S g → Type 0
AnswersOver g old sent response.NotNow desk =
    MayBeNotNow (parties_of desk.setup) (interchange_of sent)
    × IsNotedFor (closed_content desk.closed) (admission (parties_of desk.setup) (interchange_of sent)) old.rows
    desk.last_fault
    × DeskHolds g desk old.rows old.terminal
AnswersOver g old sent given desk =
    AnswersAt g (admission (parties_of desk.setup) (interchange_of sent)) (interchange_of sent) old given desk
