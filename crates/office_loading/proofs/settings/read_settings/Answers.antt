use Rattle.std.proofs.Common.{◌≡◌, ℕ, List, Some, map, true, IsTrue, sym, ap, ◌∙◌, subst}
use Rattle.office_admission.specs.Given.{is_party_code}
use Rattle.office_loading.{specs.{Contents.setting_content, Said.set_up_with}, proofs.Kept.{names_so, settings_so}}
use Rattle.office_loading.proofs.settings.read_settings.Goals as goal

pub returns-then-not-are_named-clause-refused : goal.returns-then-not-are_named-clause-refused
returns-then-not-are_named-clause-refused c content are =
    let is : c.are_named.result ≡ true = c.are_named.ensures.1 (names_so (map setting_content c.args.settings.now) content are.are) in
    cc

pub returns-clause-ok : goal.returns-clause-ok
returns-clause-ok c =
    let P : List ℕ → Type 0 = λ t. IsTrue (is_party_code t) in
    let name = c.in_ok-terminal.ensures.ok in
    let party : IsTrue (is_party_code c.value-name.result.now) = sym c.is_party_code.ensures ∙ c.if-not-is_party_code.false in
    record {
      terminal = subst P (sym name) party;
      codes = c.in-Some.ensures.0;
      limit = (c.in-Some-limit_of.ensures.0, c.in-Some-limit_of.ensures.1);
      are = settings_so (map setting_content c.args.settings.now) (set_up_with (record { terminal = c.in_ok-terminal.terminal; codes = c.in-Some.codes; visit_limit = c.in-Some-limit_of.visit_limit })) (c.are_named.ensures.0 c.if-not-are_named.false) (c.value-name.ensures ∙ ap Some (sym name)) (c.value.ensures ∙ ap Some (c.are_same.ensures.0 c.if-not-are_same.false))
          (c.value-2.ensures ∙ ap Some c.in-Some-limit_of.ensures.2) c.in-Some.ensures.1;
    }
