use Rattle.std.proofs.Common.{List, ℕ, ap, sym, ◌∙◌}
use Rattle.office_reports.{specs.Escapes.decoded_part, proofs.Parting.{behind, one_more}}
use Rattle.office_reports.proofs.keys.decode.Goals as goal

pub bytes-preserved : goal.bytes-preserved
bytes-preserved c =
    let front = c.bytes.bytes.items in
    let more = one_more c.args.part.now front c.bytes.rest.now c.in-Some.behind.now c.in-Some.byte c.bytes.invariant c.in-Some.ensures.0 in
    more ∙ ap (λ (items : List ℕ). behind items (decoded_part c.in-Some.behind.now)) (sym c.in_ok-push.ensures.items)
