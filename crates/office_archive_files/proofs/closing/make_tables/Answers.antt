use Rattle.std.proofs.{Common.{◌≡◌, ◌==◌, inl, inr, length, not, rules, refl, sym, ap, subst, ◌∙◌, arith}, lemmas.List.length-map, lemmas.Result.err_from_is_err_and}
use Rattle.sqlite.specs.{Effect.Database, Held.state, State.HasCleanDisk}
use Rattle.office_tables.specs.Opened.{AreMissing}
use Rattle.office_closing.specs.{Register.{RegisterContent, archive_content, register_content}, Stored.HasRegister, Tables.register_tables}
use Rattle.office_archive_files.proofs.FileLemmas.{never_missing}
use Rattle.office_archive_files.proofs.closing.make_tables.Goals as goal

-- It was only read: it has tables.
pub returns-in-Ok-clause-made : goal.returns-in-Ok-clause-made
returns-in-Ok-clause-made g c clean =
    let is = (c.in-Ok.ensures.reads.unchanged clean).0 in
    let settled = c.is_autocommit-is_idle.ensures.settled (c.is_autocommit-is_idle.ensures.value ∙ ap not c.requires) is.was_open in
    inl record {
      some = λ none. c.in-Ok.ensures.missing clean (ap (λ (d : Database). d.schema) settled ∙ none);
      same = is.committed_is;
    }

pub returns-in-Ok-clause-settled : goal.returns-in-Ok-clause-settled
returns-in-Ok-clause-settled g c clean =
    let is = (c.in-Ok.ensures.reads.unchanged clean).0 in
    let settled = c.is_autocommit-is_idle.ensures.settled (c.is_autocommit-is_idle.ensures.value ∙ ap not c.requires) is.was_open in
    record {
      settled = is.now_is ∙ settled ∙ sym is.committed_is;
      is_open = is.is_open;
      alone = λ db left. g.met.S.Store.settled c.read_register.new.conn.store db is.is_open left;
    }

pub returns-in-Ok-clause-tells : goal.returns-in-Ok-clause-tells
returns-in-Ok-clause-tells g c clean content has sound =
    let is = (c.in-Ok.ensures.reads.unchanged clean).0 in
    let settled = c.is_autocommit-is_idle.ensures.settled (c.is_autocommit-is_idle.ensures.value ∙ ap not c.requires) is.was_open in
    let same : register_content c.in-Ok.register ≡ content = c.in-Ok.ensures.register clean content (subst (HasRegister content) (sym settled) has) sound in
    let archives = c.in-Ok.register.archives.items in
    let empty : c.is_empty.result ≡ (length archives == 0) = search rules in
    empty ∙ ap (λ n. n == 0) (sym (length-map archives archive_content)) ∙ ap (λ (r : RegisterContent). length r.archives == 0) same

-- What was read had no register: its tables were missing.
pub returns-in_ok-create_register-in-Err-clause-made : goal.returns-in_ok-create_register-in-Err-clause-made
returns-in_ok-create_register-in-Err-clause-made g c clean =
    let read : HasCleanDisk (state g.S.Store c.read_register.new.conn) = omega (arith, c.create_register.ensures.crash.clean, clean) in
    let new = c.in_ok-create_register-in-Err.ensures.new clean in
    let same = (c.read_register.ensures.reads.keeps read).committed new.0 in
    inr (
      c.if-not-may_make.false,
      record {
        before = c.read_register.new.conn;
        same = same;
        missing = subst (λ (d : Database). AreMissing register_tables d.schema) same new.1;
        makes = c.in_ok-create_register-in-Err.ensures.ok clean;
        tells = refl;
      },
    )

pub returns-in_ok-create_register-in-Err-clause-settled : goal.returns-in_ok-create_register-in-Err-clause-settled
returns-in_ok-create_register-in-Err-clause-settled g c clean = (c.in_ok-create_register-in-Err.ensures.ok clean).is_settled

pub returns-in_ok-create_register-in-Err-clause-tells : goal.returns-in_ok-create_register-in-Err-clause-tells
returns-in_ok-create_register-in-Err-clause-tells g c clean content has sound =
    let read : HasCleanDisk (state g.S.Store c.read_register.new.conn) = omega (arith, c.create_register.ensures.crash.clean, clean) in
    let new = c.in_ok-create_register-in-Err.ensures.new clean in
    let same = (c.read_register.ensures.reads.keeps read).committed new.0 in
    let schema = ap (λ (d : Database). d.schema) same ∙ has.1.schema in
    absurd (never_missing has.0 (subst (AreMissing register_tables) schema new.1))

-- It was read, and what failed then left what was committed as it was.
pub returns-in_err-create_register-in-Err-clause-refused : goal.returns-in_err-create_register-in-Err-clause-refused
returns-in_err-create_register-in-Err-clause-refused g c clean is_open =
    let p = err_from_is_err_and c.from_residual.result c.from_residual.ensures.1 in
    let read : HasCleanDisk (state g.S.Store c.read_register.new.conn) = omega (arith, c.create_register.ensures.crash.clean, clean) in
    let it = c.in_err-create_register-in-Err.ensures.err clean is_open in
    rw p.1 (it.2 ∙ (c.read_register.ensures.reads.keeps read).committed it.0)
