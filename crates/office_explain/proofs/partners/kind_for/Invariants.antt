-- the first kind among all is the first among those that are left
use Rattle.std.{specs.List.find, proofs.Common.{◌≡◌, drop}}
use Rattle.edi_syntax.specs.Frames.{message}
use Rattle.office_explain.specs.Kinds.{codes_of, kind_for, may_send}
use Rattle.office_explain.proofs.partners.kind_for.Given as goal

abbrev pub invariant-loop-kind : goal.invariant-loop-kind
invariant-loop-kind l =
    kind_for l.table (message l.frame)
    ≡ find (λ kind. may_send (codes_of l.table kind) (message l.frame)) (drop l.kind-index l.kind-items)
