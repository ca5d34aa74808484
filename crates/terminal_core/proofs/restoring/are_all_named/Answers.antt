use Rattle.std.{specs.{Prelude.slice_get, List.list_any}, proofs.Common.{◌≡◌, ℕ, ◌<◌, List, Bool, true, false, get_or, length, Some, is_none, sym, subst}}
use Rattle.terminal_core.specs.{Restoring.numbers_of, declared.visits.Visit.Visit}
use Rattle.terminal_core.proofs.Whole.{names_number, named_where_marked, marked_where_named, numbers_rise}
use Rattle.terminal_core.proofs.restoring.are_all_named.Goals as goal

pub named-requires : goal.named-requires
named-requires c = numbers_rise c.args.visits.now c.args.numbers.now c.requires.numbers c.requires.numbered

pub returns : goal.returns
returns c =
    let P : List Bool → Type 0 = λ marks. (k : ℕ) (visit : Visit) → slice_get c.args.visits.now k ≡ Some visit → is_none visit.departure ≡ true → get_or marks k false ≡ true in
    let N : List ℕ → Type 0 = λ n. (k : ℕ) → k < length n → get_or c.in_ok-marks.marks.items k false ≡ list_any (names_number n k) c.args.places.now in
    let told : N (numbers_of c.args.visits.now) = subst N c.requires.numbers c.in_ok-marks.ensures.marks in (
      λ t. named_where_marked c.args.visits.now c.args.places.now c.in_ok-marks.marks.items c.requires.numbered told (subst P c.deref.ensures.value (c.are_marked.ensures.0 t)),
      λ named. c.are_marked.ensures.1 (subst P (sym c.deref.ensures.value) (marked_where_named c.args.visits.now c.args.places.now c.in_ok-marks.marks.items c.requires.numbered told named)),
    )
