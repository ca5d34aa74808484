use Rattle.std.proofs.Common.{string_bytes, sym, subst}
use Rattle.sqlite.specs.{Files.over_files, WalFiles.image_at}
use Rattle.office_admission.specs.Setups.{setup_content}
use Rattle.office_closing.specs.Register.{register_content}
use Rattle.office_rows.proofs.Creating.{if_ok}
use Rattle.office_archive_files.specs.{Archives.IsSealedAt, Listing.IsFoundAt}
use Rattle.office_archive_files.proofs.shelf.FileShelfFinds.look_at.Goals as goal

-- It has passed, and has its seals.
pub returns-then-is_sealed : goal.returns-then-is_sealed
returns-then-is_sealed g c =
    let self = c.args.self.now in
    subst (IsSealedAt over_files (image_at g.B.Start) (string_bytes self.store) (setup_content self.setup) (register_content c.args.names.now) c.args.place) c.if-is_sealed.true c.in-Ok.ensures

-- It has not passed.
pub returns : goal.returns
returns g c =
    let self = c.args.self.now in
    if_ok c.as_other.result (λ found other. subst (IsFoundAt over_files (image_at g.B.Start) (string_bytes self.store) (setup_content self.setup) (register_content c.args.names.now) c.args.place) (sym other.0) tt) c.as_other.ensures.other
