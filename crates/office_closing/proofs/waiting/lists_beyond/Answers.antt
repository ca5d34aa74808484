use Rattle.std.{specs.Prelude.IsPermutation, proofs.Common.{sym, ap, subst, ◌∙◌}}
use Rattle.sqlite.specs.{Held.state, State.HasCleanDisk}
use Rattle.sqlite_trees.proofs.ListLemmas.{IsPermutation-flat_map}
use Rattle.office_rows.specs.Stored.{HasRows}
use Rattle.office_admission.specs.Setups.{setup_content}
use Rattle.office_loading.specs.Waiting.{waiting_numbers}
use Rattle.office_tables.proofs.WriteLemmas.{was_clean}
use Rattle.office_parts.proofs.BringingLemmas.{if_ok}
use Rattle.office_closing.specs.Waiting.{lists_beyond, lists_under, lists_under_each}
use Rattle.office_closing.proofs.waiting.lists_beyond.Goals as goal

pub returns-clause-named : goal.returns-clause-named
returns-clause-named g c clean =
    let content = setup_content c.args.setup.now in
    let partner = c.args.partner in
    let earlier : HasCleanDisk (state g.S.Store c.waiting_numbers.new.conn) = was_clean c.lists_under_each.ensures.reads clean in
    if_ok c.lists_under_each.result _ _
    (λ lists named. λ rows has once.
    subst (IsPermutation (lists_beyond content rows partner c.args.next))
    (sym (named rows (subst (HasRows rows) (sym (c.in_ok-numbers.ensures.reads.unchanged earlier).0.now_is) has) once ∙ ap (lists_under_each content rows partner) c.deref.ensures.value))
    (IsPermutation-flat_map (lists_under content rows partner) (waiting_numbers partner c.args.next rows) c.in_ok-numbers.numbers.items (c.in_ok-numbers.ensures.answer earlier rows has)))
    (c.lists_under_each.ensures.named clean)
