-- The faults of a stream.
use Rattle.office_replies.specs.{declared.stream.StreamFault.StreamFault, declared.stream.StreamFault.TheVariants.{Read, Write, Turns}}

-- what holds after a failed read, what after a failed write, and what after too many reads
abbrev pub MatchFault : StreamFault → Type 0 → Type 0 → Type 0 → Type 0
MatchFault Read AfterRead AfterWrite AfterTurns = AfterRead
MatchFault Write AfterRead AfterWrite AfterTurns = AfterWrite
MatchFault Turns AfterRead AfterWrite AfterTurns = AfterTurns
