-- How the demonstration ends: its exit status, and what is reported.
use Rattle.std.specs.Prelude.{◌≡◌, ◌⊎◌, ℕ, List, []}
use Rattle.office_replies.specs.{declared.deliver.Worst.Worst, Streams.PortBytes}
use Rattle.office_commands.specs.{declared.demo.DemoFault.DemoFault, declared.demo.DemoFault.TheVariants.{Store, Stream}}
use Rattle.office_commands.specs.{Ending.{status_of, store_text, stream_text}, Demo.{DemoRuns, DemoLeft, PortFailures, IsOfPorts}}

-- what is reported of a fault
abbrev pub fault_text : DemoFault → List ℕ
fault_text (Store fault) = store_text fault
fault_text (Stream fault) = stream_text fault

-- The demonstration ends with the status of its stream, neither port having failed, and tells nothing, or with 3 if
-- it was left before the end, and tells why.
abbrev pub DemoEnds : PortBytes → PortFailures → (tells : List ℕ → Type 0) → ℕ → Type 0
DemoEnds ports failures tells status =
    ((worst : Worst) × (status ≡ status_of worst) × tells [] × (failures.read_after ≡ failures.read_before)
    × (failures.write_after ≡ failures.write_before)
    × DemoRuns ports worst)
    ⊎ ((fault : DemoFault) × (status ≡ 3) × tells (fault_text fault) × DemoLeft ports fault
    × IsOfPorts failures fault)
