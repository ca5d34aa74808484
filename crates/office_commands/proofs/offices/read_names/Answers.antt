use Rattle.std.specs.Option.{option_map, unwrap_or}
use Rattle.std.specs.Prelude.{IfSome, IsTrue}
use Rattle.std.proofs.Common.{Option, None, Some, refl, subst, sym}
use Rattle.office_closing.specs.{Changes.empty_register, Register.{RegisterContent, register_content}, Sound.is_sound, declared.register.Register.Register}
use Rattle.office_commands.proofs.offices.read_names.Goals as goal

-- an empty register is sound
sound_or_empty : (found : Option Register) → IfSome found (λ register. IsTrue (is_sound (register_content register))) → IsTrue (is_sound (unwrap_or (option_map register_content found) empty_register))
sound_or_empty None sound = refl
sound_or_empty (Some register) sound = sound

pub returns-in-Ok-clause-sound : goal.returns-in-Ok-clause-sound
returns-in-Ok-clause-sound c =
    subst (λ (content : RegisterContent). IsTrue (is_sound content)) (sym c.or_no_archives.ensures) (sound_or_empty c.in-Ok.found c.in-Ok.ensures.sound)
