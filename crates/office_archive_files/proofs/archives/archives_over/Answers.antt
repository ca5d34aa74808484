use Rattle.std.proofs.{Common.{◌≡◌, inl, ℕ, List, [], length, map, rules, string_bytes, refl, sym, subst, ◌∙◌}, lemmas.List.length-map}
use Rattle.std.proofs.lemmas.Result.{err_from_is_err_and}
use Rattle.sqlite.specs.{Recovery.Image, WalFiles.image_at}
use Rattle.sqlite_trees.specs.declared.store.Store.{Ghosts}
use Rattle.office_admission.specs.Setups.{SetupContent, setup_content}
use Rattle.office_commands.specs.Ending.{Prints}
use Rattle.office_closing.specs.Register.{RegisterContent, archive_content, register_content}
use Rattle.office_archive_files.specs.Listing.{FollowIn, IsFoundAt, listing_status, listing_text}
use Rattle.office_archive_files.proofs.archives.archives_over.Goals as goal

printed_as : (prints : List ℕ → ℕ → Type 0) (count many : ℕ) (lines text : List ℕ) → many ≡ count → text ≡ lines → prints (listing_text count text) (listing_status count) → prints (listing_text many lines) (listing_status many)
printed_as prints count many lines text same are is =
    subst (λ n. prints (listing_text n lines) (listing_status n)) (sym same) (subst (λ l. prints (listing_text count l) (listing_status count)) are is)

listed_at : {T : Type 0} (h : Ghosts T) (image : Image) (names : RegisterContent) (lines path other : List ℕ) (store its : SetupContent) → other ≡ path → its ≡ store
    → FollowIn (IsFoundAt h image other its names) names.archives [] lines → FollowIn (IsFoundAt h image path store names) names.archives [] lines
listed_at h image names lines path other store its path_is store_is follow =
    subst (λ at. FollowIn (IsFoundAt h image at store names) names.archives [] lines) path_is (subst (λ setup. FollowIn (IsFoundAt h image other setup names) names.archives [] lines) store_is follow)

-- The lines of what the register names were printed.
pub returns-clause-lists : goal.returns-clause-lists
returns-clause-lists g c =
    let register = c.in_ok-looked.register in
    let setup = setup_content c.in_ok-looked.setup in
    let names = register_content register in
    let archives = map archive_content register.archives.items in
    let lines : List ℕ = string_bytes c.in_ok-lines.lines in
    let shelf = c.shelf-shelf.result in
    let old = c.args.writer.now in
    let new = c.print_listing.new.writer in
    let counted : c.len-count.result ≡ length register.archives.items = search rules in
    let many : length archives ≡ c.len-count.result = length-map register.archives.items archive_content ∙ sym counted in
    let path : string_bytes shelf.store ≡ c.args.store.now = search rules in
    let its : setup_content shelf.setup ≡ setup = search rules in
    record {
      store = setup;
      names = names;
      sound = c.in_ok-looked.ensures.sound;
      looked = c.in_ok-looked.looked.conn;
      store_is = c.in_ok-looked.ensures.setup;
      of_day = c.in_ok-looked.ensures.of_day;
      of_terminal = c.in_ok-looked.ensures.of_terminal;
      lines = lines;
      follow = listed_at _ (image_at g.B.Start) names lines c.args.store.now (string_bytes shelf.store) setup (setup_content shelf.setup) path its c.in_ok-lines.ensures;
      printed = printed_as (λ text wanted. Prints old.failed new.failed new.flushed (g.W.Write.contents old.inner) (g.W.Write.contents new.inner) text wanted c.print_listing.result) c.len-count.result
          (length archives) lines c.as_str.result.now many c.as_str.ensures.value c.print_listing.ensures;
    }

-- ---- why none is listed

-- The store was not opened.
pub returns-in_err-looked-clause-refused : goal.returns-in_err-looked-clause-refused
returns-in_err-looked-clause-refused g c =
    let p = err_from_is_err_and c.from_residual.result c.from_residual.ensures.1 in
    rw (p.1, p.2) (c.in_err-looked.ensures.refused, refl)

-- Memory was refused.
pub returns-in_err-path-clause-refused : goal.returns-in_err-path-clause-refused
returns-in_err-path-clause-refused g c =
    let p = err_from_is_err_and c.from_residual-in_err-path.result c.from_residual-in_err-path.ensures.1 in
    rw (p.1, p.2) (inl tt, refl)

pub returns-in_err-lines-clause-refused : goal.returns-in_err-lines-clause-refused
returns-in_err-lines-clause-refused g c =
    let p = err_from_is_err_and c.from_residual-in_err-lines.result c.from_residual-in_err-lines.ensures.1 in
    rw (p.1, p.2) (inl tt, refl)
