use Rattle.std.proofs.Common.{◌≡◌, ◌∙◌, MatchOption, map, ap, subst, List, ℕ}
use Rattle.edi_messages.specs.Codes.{table_texts}
use Rattle.office_explain.specs.{Entries.entry_content, Said.{AreCodes, code_texts}}
use Rattle.office_explain.proofs.setup_reading.codes_in.Goals as goal

pub returns : goal.returns
returns c =
    let P : List (List ℕ × List ℕ) → Type 0 = λ l. MatchOption c.codes_of.result (¬ AreCodes l) (λ table. AreCodes l × (table_texts table ≡ code_texts l)) in
    subst P (ap (map entry_content) c.deref.ensures.value ∙ c.in_ok-entries.ensures) c.codes_of.ensures
