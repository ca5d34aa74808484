use Rattle.std.proofs.Common.{◌≡◌, ◌-◌, Some, slice_get, option_map, rules, refl, ap, subst, ◌∙◌}
use Rattle.std.proofs.lemmas.Option.{slice_get-map}
use Rattle.office_closing.specs.Register.{archive_content, register_content}
use Rattle.office_archive_files.specs.Archives.{IsRegisterAt}
use Rattle.office_archive_files.proofs.shelf.FileShelf.named.Goals as goal

-- The store's register names it, and its own is that of its place.
pub returns : goal.returns
returns g c =
    let names = c.args.names.now in
    let archive = c.in-Some.archive.now in
    let is_one : slice_get names.archives.items (c.args.place - 1) ≡ Some archive = search rules in
    record {
      file = c.place_of.result.name.now;
      is_file = record { folder = option_map (λ folder. folder.now) c.place_of.result.folder; whole = c.place_of.ensures.whole ∙ c.as_str-4.ensures.value; is_name = c.place_of.ensures.name };
      own = register_content c.in-Some-2.own;
      archive = archive_content archive;
      own_sound = search rules;
      register = subst (λ file. IsRegisterAt file c.args.place (register_content names) (register_content c.in-Some-2.own)) c.going_on.ensures (c.if-not-is_register_of.ensures.0 refl);
      is_one = slice_get-map archive_content names.archives.items (c.args.place - 1) ∙ ap (option_map archive_content) is_one;
      closed_is = c.in_ok-closed.ensures;
      segments_are = search rules;
      visits_are = refl;
    }
