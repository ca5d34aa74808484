-- What the demonstration's stream leaves behind where it ends before the input.
use Rattle.std.proofs.Common.{◌≡◌, ◌<◌, ℕ, Bool, true, [], Result, Err, rules}
use Rattle.sqlite_trees.specs.{View.doubt, declared.memory.MemStore.MemStore}
use Rattle.sqlite.specs.{Held.state, State.HasCleanDisk, Steps.over_memory, declared.connection.Connection.Connection}
use Rattle.office_admission.specs.Setups.{setup_content}
use Rattle.office_desk.{specs.{Answers.AnswersNext, Calls.Leads, Desks.{IsSound, StandsFor}}, proofs.AccountLemmas.answered_all}
use Rattle.office_replies.specs.{declared.deliver.Worst.Worst, Delivering.{AreAnswered, LeadsOn}, Streams.{PortBytes, Streams}, Faults.MatchFault}
use Rattle.office_replies.specs.{declared.stream.StreamFault.StreamFault, declared.stream.StreamFault.TheVariants.{Read, Write, Turns}}
use Rattle.office_replies.proofs.StreamLemmas.{streams_as}
use Rattle.office_commands.specs.{declared.demo.DemoFault.TheVariants.Stream, Opening.MemoryDesk, Demo.{OpensDemo, DemoLeft, IsOfPorts, port_failures}}

-- what a stream from such a desk on leaves behind
pub left_by : (ports : PortBytes) (opening desk : MemoryDesk) (fault : StreamFault) → OpensDemo opening
    → Streams (AreAnswered (StandsFor over_memory (setup_content opening.setup)) (AnswersNext (setup_content opening.setup)) [] desk) ports (Err fault) → DemoLeft ports (Stream fault)
left_by ports opening desk Read opens began = record { opening = opening; desk = desk; opens = opens; began = began }
left_by ports opening desk Turns opens began = record { opening = opening; desk = desk; opens = opens; began = began }
left_by ports opening desk Write opens delivered = record { opening = opening; desk = desk; opens = opens; delivered = delivered }

-- what is kept in memory is returned as it was written
pub memory_clean : (conn : Connection MemStore) → HasCleanDisk (state over_memory conn)
unfolding doubt
memory_clean conn = search rules

pub memory_sound : (desk : MemoryDesk) → IsSound over_memory desk
unfolding doubt
memory_sound desk = (memory_clean desk.conn, search rules)

-- which of the ports has failed, by the fault of the stream
pub failed_by : (read read' write write' : Bool) (fault : StreamFault) (Many Ended : Type 0)
    → MatchFault fault ((read' ≡ true) × (write' ≡ write)) ((write' ≡ true) × (read' ≡ read)) ((read' ≡ read) × (write' ≡ write) × Many × Ended)
    → IsOfPorts (port_failures read read' write write') (Stream fault)
failed_by read read' write write' Read Many Ended failed = failed
failed_by read read' write write' Turns Many Ended failed = (failed.0, failed.1)
failed_by read read' write write' Write Many Ended failed = failed

-- if the stream was left for the number of its turns, what is said of them
pub left_for_turns : (fault : StreamFault) (turns : ℕ) → 0 < turns → (AfterRead AfterWrite Kept Written Many Ended : Type 0)
    → MatchFault fault AfterRead AfterWrite (Kept × Written × Many × (0 < turns → Ended)) → Stream fault ≡ Stream Turns → Many × Ended
left_for_turns Read turns positive AfterRead AfterWrite Kept Written Many Ended failed is = cc
left_for_turns Write turns positive AfterRead AfterWrite Kept Written Many Ended failed is = cc
left_for_turns Turns turns positive AfterRead AfterWrite Kept Written Many Ended failed is = (failed.2, failed.3 positive)

-- what a stream to such a desk did, which is sound in the end
pub answered_in_memory : (ports : PortBytes) (opening desk : MemoryDesk) (outcome : Result Worst StreamFault) → OpensDemo opening
    → Streams (λ texts responses. LeadsOn (Leads over_memory) opening texts responses desk) ports outcome
    → Streams (AreAnswered (StandsFor over_memory (setup_content opening.setup)) (AnswersNext (setup_content opening.setup)) [] desk) ports outcome
answered_in_memory ports opening desk outcome opens =
    streams_as (λ texts responses. LeadsOn (Leads over_memory) opening texts responses desk)
    (AreAnswered (StandsFor over_memory (setup_content opening.setup)) (AnswersNext (setup_content opening.setup)) [] desk)
    (λ texts responses led. answered_all over_memory opening desk texts responses led (memory_sound desk) (setup_content opening.setup) [] opens.opens.stands) ports outcome
