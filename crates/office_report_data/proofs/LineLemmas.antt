-- What is put into the object of a line one by one is what the line says.
use Rattle.std.proofs.Common.{◌≡◌, ◌∙◌, ap, ℕ, List, [], String, Global, refl}
use Rattle.serde_json.specs.{Data.{Data, object, no_members}, View.members_view, declared.value.Value.Value}
use Rattle.office_reports.specs.Interchanges.{FactsContent}
use Rattle.office_report_data.specs.Interchanges.{line_object, with_container, with_place, with_stated}

line_whole : (place : ℕ) (facts : FactsContent) (outcome : Data)
    → object (with_stated facts (with_container facts (with_place place outcome no_members))) ≡ line_object place facts outcome
unfolding line_object with_container with_place with_stated
line_whole place facts outcome = refl

-- what the object has in the end, if it is empty at first
pub line_put : (place : ℕ) (facts : FactsContent) (outcome : Data) (first second third fourth : List (String Global × Value))
    → first ≡ [] → members_view second ≡ with_place place outcome (members_view first)
    → members_view third ≡ with_container facts (members_view second) → members_view fourth ≡ with_stated facts (members_view third)
    → object (members_view fourth) ≡ line_object place facts outcome
line_put place facts outcome first second third fourth none placed named stated =
    ap object (stated ∙ ap (with_stated facts) (named ∙ ap (with_container facts)
    (placed ∙ ap (λ (m : List (String Global × Value)). with_place place outcome (members_view m)) none)))
    ∙ line_whole place facts outcome
