use Rattle.std.proofs.Common.{◌≡◌, map, take}
use Rattle.office_loading.specs.{Contents.setting_content, Said.{setting_names, names_of}}
use Rattle.office_loading.proofs.settings.are_named.Given as goal

abbrev pub invariant-loop-place : goal.invariant-loop-place
invariant-loop-place l = names_of (map setting_content (take l.place l.settings)) ≡ take l.place setting_names
