use Rattle.std.proofs.{Common.{◌≡◌, true, ap, inr, refl, sym, subst, ◌∙◌}, lemmas.Result.err_from_is_err_and}
use Rattle.sqlite.specs.{Files.over_files, WalFiles.image_at}
use Rattle.office_admission.specs.Setups.{setup_content}
use Rattle.office_loading.specs.Closed.{closed_content}
use Rattle.office_closing.specs.{Register.{is_newer_than, register_content}, declared.register.Register.Register}
use Rattle.office_commands.proofs.RefusingLemmas.{older_over, other_loaded, refused_names, refused_opening, unloaded_over}
use Rattle.office_commands.proofs.texts.texts_over.Goals as goal

-- It shows what the files held.
pub returns-else-is_older-clause-printed : goal.returns-else-is_older-clause-printed
returns-else-is_older-clause-printed g c = c.print_loaded.ensures c.in_ok-looked.looked.inner.conn (image_at g.S.Start) c.in_ok-looked.ensures.found c.in-Ok.ensures.loaded

-- ---- why it is not opened

pub returns-in_err-looked-clause-refused : goal.returns-in_err-looked-clause-refused
returns-in_err-looked-clause-refused g c =
    let p = err_from_is_err_and c.from_residual.result c.from_residual.ensures.1 in
    rw (p.1, p.2) (refused_opening over_files (image_at g.S.Start) ⊥ _ c.in_err-looked.ensures.refused, refl)

pub returns-in_err-register-clause-refused : goal.returns-in_err-register-clause-refused
returns-in_err-register-clause-refused g c =
    let p = err_from_is_err_and c.from_residual-in_err-register.result c.from_residual-in_err-register.ensures.1 in
    rw (p.1, p.2) (refused_names over_files (image_at g.S.Start) ⊥ _ c.in_err-register.ensures.refused, refl)

pub returns-in-Err-clause-refused : goal.returns-in-Err-clause-refused
returns-in-Err-clause-refused g c = (
  inr (unloaded_over over_files (image_at g.S.Start) c.in_ok-looked.looked.inner.conn c.load_office.new.looked.inner.conn (register_content c.in_ok-register.register) c.load_office.result c.in-Err.fault c.in_ok-looked.ensures.found c.in_ok-register.ensures.sound c.load_office.ensures.reads c.in-Err.ensures.refused),
  refl,
)

-- the register that was read is of another terminal than what was loaded
pub returns-then-not-is_of_terminal-clause-refused : goal.returns-then-not-is_of_terminal-clause-refused
returns-then-not-is_of_terminal-clause-refused g c =
    let loaded = c.in-Ok.loaded in (
      other_loaded over_files (image_at g.S.Start) c.in_ok-looked.looked.inner.conn c.load_office.new.looked.inner.conn (register_content c.in_ok-register.register) (register_content loaded.register) (closed_content loaded.closed) (setup_content loaded.setup) loaded.there.terminal
          c.in_ok-looked.ensures.found c.in_ok-register.ensures.sound c.in-Ok.ensures.reads (ap register_content c.in-Ok.ensures.register) loaded.closed_is c.in-Ok.ensures.loaded.loads (sym c.is_of_terminal.ensures ∙ c.if-not-is_of_terminal.true),
      refl,
    )

-- what was loaded awaits a number that had been taken
pub returns-then-is_older-clause-refused : goal.returns-then-is_older-clause-refused
returns-then-is_older-clause-refused g c =
    let loaded = c.in-Ok.loaded in
    let newer = subst (λ (r : Register). is_newer_than loaded.there.nexts.items (register_content r) ≡ true) c.in-Ok.ensures.register (sym c.is_older.ensures ∙ c.if-is_older.true) in
    (older_over over_files (image_at g.S.Start) c.in_ok-looked.looked.inner.conn c.load_office.new.looked.inner.conn (register_content c.in_ok-register.register) loaded.there.nexts.items c.in_ok-looked.ensures.found c.in_ok-register.ensures.sound c.in-Ok.ensures.reads c.in-Ok.ensures.loaded.nexts newer, refl)
