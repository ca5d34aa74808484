use Rattle.std.proofs.{Common.{◌≡◌, false, sym, ◌∙◌, rules}, lemmas.Result.err_from_is_err_and}
use Rattle.sqlite.specs.Held.{state}
use Rattle.office_tables.{specs.declared.table_fault.TableFault.TheVariants.Damaged, proofs.MadeLemmas.reads_stopped}
use Rattle.office_closing.{specs.Register.register_content, proofs.SoundLemmas.{register_fails, kept_fails, fits_sound, none_sound, read_again}}
use Rattle.office_closing.proofs.register_reading.read_register.Goals as goal

pub returns-in_err-register-clause-read : goal.returns-in_err-register-clause-read
returns-in_err-register-clause-read g c clean layout is =
    let p = err_from_is_err_and c.from_residual.result c.from_residual.ensures.1 in
    rw (p.1, p.2) (register_fails layout (state g.S.Store c.args.conn.now).now c.in_err-register.field-0.0 (c.in_err-register.ensures.read clean layout is))

pub returns-in_err-register-clause-reads : goal.returns-in_err-register-clause-reads
returns-in_err-register-clause-reads g c = reads_stopped _ c.from_residual.ensures.0 c.in_err-register.ensures.reads

pub returns-in_err-register-clause-kept : goal.returns-in_err-register-clause-kept
returns-in_err-register-clause-kept g c clean =
    let db = (state g.S.Store c.args.conn.now).now in
    let fault = c.in_err-register.field-0.0 in
    let p = err_from_is_err_and c.from_residual.result c.from_residual.ensures.1 in
    rw (p.1, p.2) (λ content has sound. kept_fails has.0 db fault (register_fails has.0 db fault (c.in_err-register.ensures.read clean has.0 has.1.schema)) content has.1 sound)

pub returns-then-sound-clause-read : goal.returns-then-sound-clause-read
returns-then-sound-clause-read g c clean layout is =
    let read = c.in_ok-register.ensures.read clean layout is in
    (read.0, fits_sound (register_content c.in_ok-register.register) read.1 (sym c.in_ok-sound.ensures ∙ c.if-sound.true))

pub returns-then-sound-clause-register : goal.returns-then-sound-clause-register
returns-then-sound-clause-register g c clean content has sound =
    read_again has.0 (state g.S.Store c.args.conn.now).now (register_content c.in_ok-register.register) content (c.in_ok-register.ensures.read clean has.0 has.1.schema).0 has.1 sound

pub returns-else-sound-clause-read : goal.returns-else-sound-clause-read
returns-else-sound-clause-read g c clean layout is =
    let off : c.in_ok-sound.sound ≡ false = search rules in
    none_sound layout (state g.S.Store c.args.conn.now).now (register_content c.in_ok-register.register) (c.in_ok-register.ensures.read clean layout is).0 (sym c.in_ok-sound.ensures ∙ off)

pub returns-else-sound-clause-kept : goal.returns-else-sound-clause-kept
returns-else-sound-clause-kept g c clean content has sound =
    let db = (state g.S.Store c.args.conn.now).now in
    let off : c.in_ok-sound.sound ≡ false = search rules in
    kept_fails has.0 db Damaged (none_sound has.0 db (register_content c.in_ok-register.register) (c.in_ok-register.ensures.read clean has.0 has.1.schema).0 (sym c.in_ok-sound.ensures ∙ off)) content has.1 sound
