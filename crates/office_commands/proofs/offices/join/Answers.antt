use Rattle.std.proofs.Common.{sym, ap, subst, ◌∙◌}
use Rattle.office_closing.specs.Register.{register_content}
use Rattle.office_desk.specs.declared.desk.Desk.{Desk}
use Rattle.office_loading.specs.Closed.{closed_content}
use Rattle.office_commands.{specs.Beside.OpensWith, proofs.OpenLemmas.{joined_with, loaded_as, of_that_terminal}}
use Rattle.office_commands.proofs.offices.join.Goals as goal

-- The desk is over what was loaded, beside the archives that the register names.
pub returns : goal.returns
returns g c found image shows loaded =
    let was = c.args.loaded in
    let names = register_content was.register in
    let made = c.into_desk-desk in
    let desk = made.result in
    let its = loaded_as g.S.Store found c.args.looked.inner.conn was.closed was.setup was.there desk made.ensures.conn made.ensures.closed made.ensures.setup loaded in
    let with_it : OpensWith g.S.Store g.M.ArchivesBeside.hold g.A.Archives.are image names (desk, c.archives_of-archives.result) =
    joined_with g.S.Store g.M.ArchivesBeside.hold g.A.Archives.are image found names desk was.there c.archives_of-archives.result shows its made.ensures.beside (λ sound db left. g.met.S.Store.settled desk.conn.store db sound.1 left)
    was.sound (ap closed_content made.ensures.closed ∙ was.closed_is) c.archives_of-archives.ensures.these c.archives_of-archives.ensures.none c.requires.of_day (of_that_terminal names desk was.setup made.ensures.setup c.requires.of_terminal) in
    subst (λ (d : Desk _ g.S.Store). OpensWith g.S.Store g.M.ArchivesBeside.hold g.A.Archives.are image names (d, c.new.result.archives)) (sym c.new.ensures.desk)
    (subst (λ a. OpensWith g.S.Store g.M.ArchivesBeside.hold g.A.Archives.are image names (desk, a)) (sym c.new.ensures.archives) with_it)
