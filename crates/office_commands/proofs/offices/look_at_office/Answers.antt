use Rattle.std.proofs.{Common.{◌≡◌, false, inl, inr, ap, sym, subst, ◌∙◌}, lemmas.Result.err_from_is_err_and}
use Rattle.sqlite.specs.{Files.over_files, WalFiles.image_at}
use Rattle.office_rows.specs.{Stored.HasRows, Tables.office_schema}
use Rattle.office_tables.proofs.WriteLemmas.{was_clean}
use Rattle.office_admission.specs.Setups.{setup_content}
use Rattle.office_closing.specs.Register.{is_newer_than, is_of_terminal, register_content}
use Rattle.office_commands.proofs.RefusingLemmas.{older_over, other_over, refused_names, unloaded_over}
use Rattle.office_commands.proofs.offices.look_at_office.Goals as goal

pub returns-clause-setup : goal.returns-clause-setup
returns-clause-setup g c = c.in-Ok-read_setup.ensures.setup (image_at g.S.Start) c.in-Ok.ensures.found

-- What it awaits had not been taken as an archive was closed.
pub returns-clause-of_day : goal.returns-clause-of_day
returns-clause-of_day g c = λ clean db rows held has.
    let nexts = c.in-Ok-read_setup.read.1.nexts.items in
    let names = register_content c.in_ok-register.register in
    let is = c.in-Ok.ensures.found (was_clean c.in-Ok-read_setup.ensures.reads clean) db office_schema held.held held.lists in
    let of_day : is_newer_than nexts names ≡ false = ap (λ n. is_newer_than n names) (sym c.deref.ensures.value) ∙ sym c.is_newer_than.ensures ∙ c.if-is_newer_than.false in
    (nexts, c.in-Ok-read_setup.ensures.nexts clean rows (subst (HasRows rows) (sym is) has), of_day)

pub returns-clause-of_terminal : goal.returns-clause-of_terminal
returns-clause-of_terminal g c =
    let names = register_content c.in_ok-register.register in
    ap (λ code. is_of_terminal code names) (sym c.as_str.ensures.value) ∙ sym c.is_of_terminal.ensures ∙ c.if-not-is_of_terminal.false

-- ---- why it is not opened

pub returns-in-Err-clause-refused : goal.returns-in-Err-clause-refused
returns-in-Err-clause-refused g c = inl c.in-Err.ensures.fault

pub returns-in_err-register-clause-refused : goal.returns-in_err-register-clause-refused
returns-in_err-register-clause-refused g c =
    let p = err_from_is_err_and c.from_residual.result c.from_residual.ensures.1 in
    rw (p.1, p.2) (refused_names over_files (image_at g.S.Start) ⊥ _ c.in_err-register.ensures.refused)

pub returns-in-Err-read_setup-clause-refused : goal.returns-in-Err-read_setup-clause-refused
returns-in-Err-read_setup-clause-refused g c =
    inr (unloaded_over over_files (image_at g.S.Start) c.in-Ok.looked.conn c.read_setup.new.looked.conn (register_content c.in_ok-register.register) c.read_setup.result c.in-Err-read_setup.fault c.in-Ok.ensures.found c.in_ok-register.ensures.sound c.read_setup.ensures.reads c.in-Err-read_setup.ensures.refused)

-- the register that was read is of another terminal
pub returns-then-not-is_of_terminal-clause-refused : goal.returns-then-not-is_of_terminal-clause-refused
returns-then-not-is_of_terminal-clause-refused g c =
    let names = register_content c.in_ok-register.register in
    let read = c.in-Ok-read_setup.read in
    let other = ap (λ code. is_of_terminal code names) (sym c.as_str.ensures.value) ∙ sym c.is_of_terminal.ensures ∙ c.if-not-is_of_terminal.true in
    other_over over_files (image_at g.S.Start) c.in-Ok.looked.conn c.read_setup.new.looked.conn names (setup_content read.0) read.1.terminal c.in-Ok.ensures.found c.in_ok-register.ensures.sound c.in-Ok-read_setup.ensures.reads c.in-Ok-read_setup.ensures.loads other

-- the store awaits a number that had been taken
pub returns-then-is_newer_than-clause-refused : goal.returns-then-is_newer_than-clause-refused
returns-then-is_newer_than-clause-refused g c =
    let names = register_content c.in_ok-register.register in
    let nexts = c.in-Ok-read_setup.read.1.nexts.items in
    let newer = ap (λ n. is_newer_than n names) (sym c.deref.ensures.value) ∙ sym c.is_newer_than.ensures ∙ c.if-is_newer_than.true in
    older_over over_files (image_at g.S.Start) c.in-Ok.looked.conn c.read_setup.new.looked.conn names nexts c.in-Ok.ensures.found c.in_ok-register.ensures.sound c.in-Ok-read_setup.ensures.reads c.in-Ok-read_setup.ensures.nexts newer
