-- The bytes of an interchange that may be an advice, and a piece after them.
use Rattle.std.proofs.Common.{◌≡◌, ℕ, zero, suc, ◌+◌, ◌-◌, ◌<◌, ◌≤◌, true, false, List, [], ◌∷◌, ◌++◌, length, take, drop, get_or, Some, None, refl, sym, ap, subst, ◌∙◌, append_assoc, arith}
use Rattle.std.proofs.{Math.ListN.set, lemmas.Bool.true≢false, lemmas.List.{take_all, take_more, take_more_set, length-drop, length-set, append-nil}}
use Rattle.std.proofs.Math.Seq.{take-add}
use Rattle.edi_syntax.specs.{Characters.is_break, Reading.breaks_len, Cuts.{fault_of, is_closed, is_whole, IsOpenBefore, Faults}}
use Rattle.edi_syntax.specs.{Steps.{IsReadingOf, Holds, IsReadOn, IsRefusedBehind}, declared.position.Reading.Reading, declared.cutter.CutFault.CutFault}
use Rattle.edi_syntax.proofs.PositionLemmas.{before_more, no_breaks}

-- the bytes of the piece so far stand after the text, and were read
pub record Filled (text piece front : List ℕ) (i : ℕ) (reading : Reading) : Type 0 where
  pub long : length front ≡ 9
  pub filled : take (length text + i) front ≡ text ++ take i piece
  pub within : length text + i ≤ 9
  pub holds : Holds (text ++ take i piece) reading
  pub going : is_whole (text ++ take i piece) ≡ false

pub filled_none : (text piece front : List ℕ) (reading : Reading) → length front ≡ 9 → take (length text) front ≡ text → length text < 9 → Holds text reading → is_whole text ≡ false → Filled text piece front 0 reading
filled_none text piece front reading long filled short holds open_ =
    let same : text ≡ text ++ take 0 piece = sym (append-nil text) in
    let count : length text + 0 ≡ length text = omega arith in
    record {
      long = long;
      filled = ap (λ (n : ℕ). take n front) count ∙ filled ∙ same;
      within = omega (arith, short);
      holds = subst (λ (t : List ℕ). Holds t reading) same holds;
      going = ap is_whole (sym same) ∙ open_;
    }

breaks_front : (text piece : List ℕ) (n : ℕ) → breaks_len (text ++ piece) ≡ 0 → breaks_len (text ++ take n piece) ≡ 0
breaks_front [] piece zero h = refl
breaks_front [] [] (suc n) h = refl
breaks_front [] (x ∷ xs) (suc n) h = rw (no_breaks (is_break x) (breaks_len xs) h) refl
breaks_front (a ∷ text) piece n h = rw (no_breaks (is_break a) (breaks_len (text ++ piece)) h) refl

-- the byte at the position
pub next_bytes : (text piece : List ℕ) (i : ℕ) → i < length piece → (text ++ take i piece) ++ get_or piece i 0 ∷ [] ≡ text ++ take (i + 1) piece
next_bytes text piece i within =
    append_assoc text (take i piece) (get_or piece i 0 ∷ []) ∙ ap (λ (t : List ℕ). text ++ t) (sym (take_more piece i 0 within))

pub put_next : (text piece front : List ℕ) (i : ℕ) (reading : Reading) → Filled text piece front i reading → length text + i < 9 → i < length piece
    → take (length text + i + 1) (set front (length text + i) (get_or piece i 0)) ≡ text ++ take (i + 1) piece
put_next text piece front i reading f room within =
    take_more_set front (length text + i) (get_or piece i 0) (omega (arith, f.long, room))
    ∙ ap (λ (t : List ℕ). t ++ get_or piece i 0 ∷ []) f.filled ∙ next_bytes text piece i within

pub filled_next : (text piece front : List ℕ) (i : ℕ) (reading next : Reading) → Filled text piece front i reading → length text + i < 9 → i < length piece → Holds (text ++ take (i + 1) piece) next → is_whole (text ++ take (i + 1) piece) ≡ false
    → Filled text piece (set front (length text + i) (get_or piece i 0)) (i + 1) next
filled_next text piece front i reading next f room within holds open_ =
    let same : length text + (i + 1) ≡ length text + i + 1 = omega arith in
    record {
      long = length-set front (length text + i) (get_or piece i 0) ∙ f.long;
      filled = ap (λ (n : ℕ). take n (set front (length text + i) (get_or piece i 0))) same ∙ put_next text piece front i reading f room within;
      within = omega (arith, room);
      holds = holds;
      going = open_;
    }

open_next : (text piece : List ℕ) (i : ℕ) (reading : Reading) → Holds (text ++ take i piece) reading → is_whole (text ++ take i piece) ≡ false → i < length piece → IsOpenBefore (text ++ take (i + 1) piece)
open_next text piece i reading holds open_ within =
    subst IsOpenBefore (next_bytes text piece i within) (before_more (text ++ take i piece) (get_or piece i 0) holds.before (holds.none, open_))

pub holds_next : (text piece slice : List ℕ) (i : ℕ) (reading next : Reading) → Holds (text ++ take i piece) reading → is_whole (text ++ take i piece) ≡ false → i < length piece → breaks_len (text ++ piece) ≡ 0
    → slice ≡ text ++ take (i + 1) piece → IsReadingOf next slice × (fault_of slice ≡ None) → Holds (text ++ take (i + 1) piece) next
holds_next text piece slice i reading next holds open_ within begins same (reads, none) = record {
  reads = subst (IsReadingOf next) same reads;
  front = breaks_front text piece (i + 1) begins;
  before = open_next text piece i reading holds open_ within;
  none = ap fault_of (sym same) ∙ none;
}

pub closed_is : (text : List ℕ) (reading : Reading) → Holds text reading → is_closed reading.position ≡ is_whole text
closed_is text reading h = ap is_closed h.reads.1

pub refused_next : (text piece slice : List ℕ) (i : ℕ) (reading : Reading) (fault : CutFault) → Holds (text ++ take i piece) reading → is_whole (text ++ take i piece) ≡ false → i < length piece
    → slice ≡ text ++ take (i + 1) piece → fault_of slice ≡ Some fault → IsRefusedBehind text piece fault
refused_next text piece slice i reading fault holds open_ within same faulty =
    (i + 1, omega (arith, within), (ap fault_of (sym same) ∙ faulty, open_next text piece i reading holds open_ within))

pub read_whole : (text piece : List ℕ) (i : ℕ) (reading : Reading) → i ≤ length piece → Holds (text ++ take i piece) reading → is_whole (text ++ take i piece) ≡ true → IsReadOn text piece i reading
read_whole text piece i reading within holds whole =
    record { within = within; holds = holds; all = λ open_. absurd (true≢false (sym whole ∙ open_)) }

pub read_all : (text piece : List ℕ) (i : ℕ) (reading : Reading) → length piece ≤ i → Holds (text ++ take i piece) reading → IsReadOn text piece (length piece) reading
read_all text piece i reading past holds = record {
  within = omega arith;
  holds = subst (λ (t : List ℕ). Holds (text ++ t) reading) (take_all i piece past ∙ sym (take_all (length piece) piece (omega arith))) holds;
  all = λ open_. refl;
}

-- ---- the rest of the piece, after nine bytes

pub nine : (text piece front : List ℕ) (i : ℕ) (reading : Reading) → Filled text piece front i reading → 9 ≤ length text + i → front ≡ text ++ take i piece
nine text piece front i reading f past = sym (take_all (length text + i) front (omega (arith, f.long, past))) ∙ f.filled

-- what stands after
pub record Rest (piece rest : List ℕ) (i : ℕ) : Type 0 where
  pub within : i < length piece
  pub rest_is : rest ≡ take (length piece - i) (drop i piece)

rest_all : (piece rest : List ℕ) (i : ℕ) → Rest piece rest i → rest ≡ drop i piece
rest_all piece rest i h = h.rest_is ∙ take_all (length piece - i) (drop i piece) (omega (arith, length-drop i piece))

rest_len : (piece rest : List ℕ) (i : ℕ) → Rest piece rest i → length rest ≡ length piece - i
rest_len piece rest i h = ap length (rest_all piece rest i h) ∙ length-drop i piece

joined : (text piece front rest : List ℕ) (i : ℕ) → Rest piece rest i → front ≡ text ++ take i piece → (n : ℕ) → front ++ take n rest ≡ text ++ take (i + n) piece
joined text piece front rest i h is n =
    ap (λ (t : List ℕ). t ++ take n rest) is ∙ append_assoc text (take i piece) (take n rest)
    ∙ ap (λ (t : List ℕ). text ++ (take i piece ++ take n t)) (rest_all piece rest i h)
    ∙ ap (λ (t : List ℕ). text ++ t) (sym (take-add i n piece))

pub read_later : (text piece front rest : List ℕ) (i used : ℕ) (reading : Reading) → Rest piece rest i → front ≡ text ++ take i piece → IsReadOn front rest used reading → IsReadOn text piece (i + used) reading
read_later text piece front rest i used reading h is r =
    let same = joined text piece front rest i h is used in
    let len = rest_len piece rest i h in
    record {
      within = omega (arith, r.within, len, h.within);
      holds = subst (λ (t : List ℕ). Holds t reading) same r.holds;
      all = λ open_. let every = r.all (ap is_whole same ∙ open_) in omega (arith, every, len, h.within);
    }

pub refused_later : (text piece front rest : List ℕ) (i : ℕ) (fault : CutFault) → Rest piece rest i → front ≡ text ++ take i piece → IsRefusedBehind front rest fault → IsRefusedBehind text piece fault
refused_later text piece front rest i fault h is (n, within, faults) =
    (i + n, omega (arith, within, rest_len piece rest i h, h.within), subst (λ (t : List ℕ). Faults t fault) (joined text piece front rest i h is n) faults)
