-- the kind that all messages want is that which those that are left want
use Rattle.std.proofs.Common.{◌≡◌}
use Rattle.edi_syntax.specs.{Envelope.messages_of, Envelopes.envelope_segments, Frames.messages_left}
use Rattle.office_explain.specs.Kinds.{kind_wanted}
use Rattle.office_explain.proofs.partners.kind_wanted.Given as goal

abbrev pub invariant-loop-frame : goal.invariant-loop-frame
invariant-loop-frame l =
    kind_wanted l.table (messages_of (envelope_segments l.envelope)) ≡ kind_wanted l.table (messages_left l.frame-iterator)
