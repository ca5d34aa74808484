use Rattle.std.proofs.{Common.{◌≡◌, ℕ, List, None, Ok, arith, length, map, take, refl, sym, ap, subst, ◌∙◌}, lemmas.List.take_all}
use Rattle.std.proofs.lemmas.Result.{err_from_is_err_and}
use Rattle.office_desk.proofs.LookLemmas.{looks_nowhere}
use Rattle.office_parts.specs.{Archives.Archive, Away.lines_away, Named.named_list_content, Naming.interchange_lists, OwnLists.ListName}
use Rattle.office_admission.specs.{Parties.partner_kinds, declared.setup.Setup.Setup, Outcomes.IsAdmitted}
use Rattle.terminal_core.specs.Versions.{newest}
use Rattle.office_archives.{specs.Bringing.{BringsTogether, named_by}, proofs.Brought.{brings_fault, brings_nothing, never_away, none_there}}
use Rattle.office_archives.proofs.bringing.bring_back_named.Goals as goal

-- those of all archives
no_lists : (list : List Archive) (name : ListName) (count : ℕ) → count ≡ length list → lines_away (take count list) name ≡ None → lines_away list name ≡ None
no_lists list name count many none = subst (λ first. lines_away first name ≡ None) (take_all count list (omega (arith, many))) none

-- no list was put away
pub returns-then-not-has_lists : goal.returns-then-not-has_lists
returns-then-not-has_lists g c = record {
  brings = λ text exact.
      let desk = c.args.desk.now in
      brings_nothing g.S.Store g.A.Archives.are desk desk c.args.archives.now (λ sound db left. g.met.S.Store.settled desk.conn.store db sound.1 left) (looks_nowhere g.S.Store desk) refl (named_by desk c.args.admitted.now.partner text) (Ok tt) (λ clean was. was)
      (λ sound list content es these stands. none_there stands.away (named_by desk c.args.admitted.now.partner text)
      (λ name. never_away g.S.Store list content es desk stands name (no_lists list name c.count.result (c.count.ensures list these) ((c.has_lists.ensures list these).none c.if-not-has_lists.true name))));
}

pub returns-in_err-lists : goal.returns-in_err-lists
returns-in_err-lists g c = record {
  brings = λ text exact.
      let desk = c.args.desk.now in
      let p = err_from_is_err_and c.from_residual.result c.from_residual.ensures.1 in
      brings_fault g.S.Store g.A.Archives.are desk desk c.args.archives.now (λ sound db left. g.met.S.Store.settled desk.conn.store db sound.1 left) (looks_nowhere g.S.Store desk) refl (named_by desk c.args.admitted.now.partner text) _ p.0 p.1;
}

pub returns : goal.returns
returns g c = record {
  brings = λ text exact.
      let desk = c.args.desk.now in
      let partner = c.args.admitted.now.partner in
      let names : map named_list_content c.deref.result.now ≡ named_by desk partner text =
      ap (map named_list_content) c.deref.ensures.value
      ∙ c.in_ok-lists.ensures text (subst (λ (s : Setup). IsAdmitted s text c.args.admitted.now) (sym c.setup.ensures) exact)
      ∙ ap (λ (s : Setup). interchange_lists newest s.codes (partner_kinds s.partners.items) partner text) c.setup.ensures in
      subst (λ l. BringsTogether g.S.Store g.A.Archives.are desk c.args.archives.now l c.bring_back_all.result c.bring_back_all.new.desk) names c.bring_back_all.ensures.brings;
}
