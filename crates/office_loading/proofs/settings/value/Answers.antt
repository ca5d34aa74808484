use Rattle.std.{specs.Prelude.slice_get, proofs.{Common.{◌≡◌, Some, length, string_bytes, refl, sym, ap, ◌∙◌}, lemmas.Option.slice_get_read}}
use Rattle.office_loading.{specs.declared.settings.Setting.Setting, proofs.Kept.value_in}
use Rattle.office_loading.proofs.settings.value.Goals as goal

pub returns : goal.returns
returns c =
    let at : slice_get c.args.settings.now c.args.place ≡ Some c.index-settings-place.result = slice_get_read c.args.settings.now (length c.args.settings.now) _ c.index-settings-place.result refl c.requires c.index-settings-place.is in
    value_in c.args.settings.now c.args.place c.index-settings-place.result at ∙ ap (λ (s : Setting). Some (string_bytes s.value)) c.index-settings-place.is ∙ ap Some (sym c.as_str.ensures.value)
