use Rattle.std.proofs.Common.{map, refl, ap, subst}
use Rattle.office_closing.{specs.{Lists.list_content, Copies.office_content, Planning.AreInBoth}, proofs.ClearLemmas.registers_for}
use Rattle.office_closing.proofs.planning.lists_to_close.Goals as goal

pub returns : goal.returns
returns c =
    let own = office_content c.args.own.now in
    let copy = office_content c.args.copy.now in
    let at = c.args.archive in
    let done = map list_content c.in_ok-done.done.items in
    let all = map list_content c.in_ok-all.all.items in
    let both = subst (λ l. AreInBoth (map list_content l) (map list_content c.deref-3.result.now) (map list_content c.in_ok-gone.gone.items)) c.deref-2.ensures.value c.in_ok-gone.ensures in
    record {
      done = done;
      are_done = c.in_ok-done.ensures;
      all = registers_for own copy at done all _ all (ap (map list_content) c.deref.ensures.value) refl c.in_ok-all.ensures;
      gone = subst (λ l. AreInBoth done (map list_content l) (map list_content c.in_ok-gone.gone.items)) c.deref-3.ensures.value both;
    }
