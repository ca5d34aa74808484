-- Fronts of the set-up files.
use Rattle.std.proofs.Common.{◌≡◌, ◌≢◌, ℕ, ◌≤◌, ◌<◌, ◌-◌, ◌+◌, ◌++◌, List, [], ◌∷◌, length, take, map, refl, sym, ap, subst, ◌∙◌, arith, inr, append-nil, Option, None, Some, IfSome, MatchOption, All}
use Rattle.std.proofs.lemmas.List.{take-map, length-append, length-map}
use Rattle.std.proofs.lemmas.List.Elements.{All-tail}
use Rattle.csv.specs.Records.{AllText}
use Rattle.office_explain.specs.Entries.{Record}
use Rattle.office_explain.specs.Wrong.{Shows, Brings, AreTexts, BeginsNoText, IsFirstNoText, IsRight, IsWrong}
use Rattle.office_explain.specs.{declared.setup_reading.SetupFault.SetupFault, declared.setup_reading.SetupFile.SetupFile}
use Rattle.office_explain.specs.declared.setup_reading.SetupFault.TheVariants.{Csv}

-- two fronts, one longer by a record
pub brought : {A : Type 0} (Shown : List Record → Type 0) (f : A → Record) (texts : List A) (right wrong : ℕ) → right < wrong → wrong ≤ right + 1 → wrong ≤ length texts
    → Shown (map f (take wrong texts)) → ¬ Shown (map f (take right texts)) → Brings Shown (map f texts) wrong
brought Shown f texts right wrong order next within shown before =
    let long : length (map f texts) ≡ length texts = length-map texts f in
    let same : right ≡ wrong - 1 = omega (arith, order, next) in
    record {
      there = (omega (arith, order), omega (arith, within, long));
      shown = subst Shown (sym (take-map f wrong texts)) shown;
      before = λ z. before (subst Shown (take-map f right texts) (subst (λ (n : ℕ). Shown (take n (map f texts))) (sym same) z));
    }

-- a record stands after those that are text
pub no_text : (rows texts : List Record) → AreTexts rows texts → length texts < length rows → IsFirstNoText rows (length texts + 1)
no_text rows texts are less = by_rest are.rest are.parts are.ends where
  by_rest : (rest : List Record) → rows ≡ texts ++ rest → BeginsNoText rest → IsFirstNoText rows (length texts + 1)
  by_rest [] parts ends = let long = ap length parts ∙ length-append texts [] in absurd (omega (arith, less, long))
  by_rest (row ∷ rest) parts ends = record { front = texts; row = row; rest = rest; parts = parts; text = are.text; no_text = ends; place = refl }

-- none after them is one where all are text
pub right_in : (file : SetupFile) (fault : SetupFault) (rows texts : List Record) → AreTexts rows texts → ¬ Shows file fault texts → IsRight file fault rows
right_in file fault rows texts are not_shown all shown = by_rest are.rest are.parts are.ends where
  by_rest : (rest : List Record) → rows ≡ texts ++ rest → BeginsNoText rest → ⊥
  by_rest [] parts ends = not_shown (subst (Shows file fault) (parts ∙ append-nil texts) shown)
  by_rest (row ∷ rest) parts ends = ends (text_at texts (subst (All AllText) parts all)) where
    text_at : (front : List Record) → All AllText (front ++ row ∷ rest) → AllText row
    text_at [] all = all 0 row (omega arith)
    text_at (y ∷ front) all = text_at front (All-tail AllText y (front ++ row ∷ rest) all)

-- the record after those that are text, where that is the fault
pub behind_text : (file : SetupFile) (fault : SetupFault) (rows texts : List Record) → AreTexts rows texts → ¬ Shows file fault texts → (t r : ℕ) → t ≡ length texts → r ≡ length rows
    → (found : Option ℕ) → IfSome found (λ n. (fault ≡ Csv) × (t < r) × (n ≡ t + 1)) → MatchOption found (IsRight file fault rows) (IsWrong file fault rows)
behind_text file fault rows texts are not_shown t r long all None some = right_in file fault rows texts are not_shown
behind_text file fault rows texts are not_shown t r long all (Some n) some =
    let less = some.1 in
    let place : length texts + 1 ≡ n = ap (λ (k : ℕ). k + 1) (sym long) ∙ sym some.2 in
    inr (some.0, subst (IsFirstNoText rows) place (no_text rows texts are (omega (arith, less, long, all))))
