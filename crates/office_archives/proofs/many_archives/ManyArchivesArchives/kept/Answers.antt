use Rattle.std.{specs.Option.option_and_then, proofs.Common.{◌≡◌, Some, sym, ap, subst, ◌∙◌}}
use Rattle.partner_core.proofs.Orders.{some_of}
use Rattle.office_tables.specs.Answers.{IsKept}
use Rattle.office_parts.specs.Archives.{archive_of}
use Rattle.office_archives.{specs.Shelves.archive_at, proofs.{Rising.told_archive, Filled.told_by}}
use Rattle.office_archives.proofs.many_archives.ManyArchivesArchives.kept.Goals as goal

pub returns-in-Some-2-clause-kept : goal.returns-in-Some-2-clause-kept
returns-in-Some-2-clause-kept g c last archives are closed =
    let self = c.args.self.now in
    let p = c.args.partner in
    let n = c.args.number in
    let reached = some_of (archive_of archives p n) closed.1 in
    let at : archive_at archives c.in-Some.place ≡ Some reached.0 = sym (are.are_named.named p n closed.0 ∙ ap (option_and_then (archive_at archives)) (sym c.archive_of.ensures ∙ c.in-Some.is)) ∙ reached.1 in
    let told = told_archive g.S.Store g.F.Shelf.is_known g.F.Shelf.holds archives self.shelf self.register self.opened.items _ c.in-Some.place _ reached.0 c.in_ok-kept.ensures.told last are at in
    told_by archives reached.0 p n c.in-Some-2.kept reached.1 told.1 (subst (IsKept p n reached.0.rows) c.in-Some-2.is told.0.1)
