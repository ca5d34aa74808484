-- The open containers of a list rise, and are the only ones that do and are open.
use Rattle.std.specs.{Prelude.{filter, ◌&&◌, ◌||◌, T}, List.list_any, Option.option_map_or, Str.bytes_eq, FinMap.Entries.{below_all, same_entries}}
use Rattle.std.specs.{Ordering.{nat_cmp, eq_by_cmp, is_eq, is_lt, ordering_then}, declared.cmp.Ordering.Ordering, Cmp.tied_itself}
use Rattle.std.specs.{declared.cmp.Ordering.TheVariants.{Less, Equal, Greater}, Cmp.Lexicographic.{slice_cmp, nat_list_cmp_total, texts_ties}}
use Rattle.std.proofs.Common.{◌≡◌, ℕ, List, [], ◌∷◌, map, Bool, true, false, cond, Option, None, Some, refl, sym, ap, subst, ◌∙◌}
use Rattle.box6346.specs.declared.box_number.BoxNumber.{BoxNumber}
use Rattle.edi_messages.specs.Purposes.{CallContent}
use Rattle.terminal_core.{specs.{declared.lines.Side.Side, State.{LineContent, LineKey, Lines, line_key, side_code}}, proofs.Lined.{order, same_key}}
use Rattle.terminal_core.{specs.Drop.{is_pending, is_on, container_in, is_open_on, open_containers, AreOpenContainers}, proofs.Dropping.{both_true, key_on}}
use Rattle.std.specs.FinMap as finite_map

abbrev by_text : List ℕ → List ℕ → Ordering
by_text = slice_cmp nat_cmp

self_tied : (s : List ℕ) → by_text s s ≡ Equal
self_tied s = tied_itself nat_list_cmp_total s

-- keys of one list stand as their containers do
key_order : (call : CallContent) (side : Side) (a b : BoxNumber) → order (line_key call side a) (line_key call side b) ≡ ordering_then (by_text a b) Equal
key_order call side a b =
    ap (λ r. ordering_then r (ordering_then (by_text call.voyage call.voyage) (ordering_then (by_text (side_code side ∷ []) (side_code side ∷ [])) (ordering_then (by_text a b) Equal)))) (self_tied call.vessel)
    ∙ ap (λ r. ordering_then r (ordering_then (by_text (side_code side ∷ []) (side_code side ∷ [])) (ordering_then (by_text a b) Equal))) (self_tied call.voyage)
    ∙ ap (λ r. ordering_then r (ordering_then (by_text a b) Equal)) (self_tied (side_code side ∷ []))

same_lt : (r : Ordering) → is_lt (ordering_then r Equal) ≡ is_lt r
same_lt Less = refl
same_lt Equal = refl
same_lt Greater = refl

same_eq : (r : Ordering) → is_eq (ordering_then r Equal) ≡ is_eq r
same_eq Less = refl
same_eq Equal = refl
same_eq Greater = refl

abbrev Entry : Type 0
Entry = LineKey × LineContent

abbrev marked : List BoxNumber → List (BoxNumber × Bool)
marked containers = map (λ b. (b, true)) containers

and_first : (a b : Bool) → T (a && b) → T a
and_first true b p = tt
and_first false b p = p

and_second : (a b : Bool) → T (a && b) → T b
and_second true b p = p
and_second false b p = absurd p

both : (a b : Bool) → T a → T b → T (a && b)
both true b p q = q
both false b p q = p

module _ (call : CallContent) (side : Side) where
  abbrev opens : Entry → Bool
  opens = is_open_on call side

  abbrev numbers : List Entry → List BoxNumber
  numbers es = map (λ (e : Entry). container_in e.0) (filter opens es)

  on_key : (e : Entry) → opens e ≡ true → e.0 ≡ line_key call side (container_in e.0)
  on_key e is = key_on call side e.0 (both_true (is_on call side e.0) (is_pending e.1.state) is).0

  below : (e f : Entry) → opens e ≡ true → opens f ≡ true → T (is_lt (order e.0 f.0)) → T (is_lt (by_text (container_in e.0) (container_in f.0)))
  below e f own other less =
      let P : LineKey → LineKey → Type 0 = λ j k. T (is_lt (order j k)) in
      let one = subst (λ j. P j f.0) (on_key e own) less in
      let two = subst (P (line_key call side (container_in e.0))) (on_key f other) one in
      subst T (ap is_lt (key_order call side (container_in e.0) (container_in f.0)) ∙ same_lt (by_text (container_in e.0) (container_in f.0))) two

  all_below : (e : Entry) (es : List Entry) → opens e ≡ true → T (below_all order e.0 es) → T (below_all by_text (container_in e.0) (marked (numbers es)))
  all_below e [] own h = tt
  all_below e (f ∷ es) own h = by (opens f) refl (all_below e es own (and_second _ _ h))
    where
      by : (b : Bool) → opens f ≡ b → T (below_all by_text (container_in e.0) (marked (numbers es)))
          → T (below_all by_text (container_in e.0) (marked (map (λ (g : Entry). container_in g.0) (cond b (f ∷ filter opens es) (filter opens es)))))
      by true is rest = both _ _ (below e f own is (and_first _ _ h)) rest
      by false is rest = rest

  rising : (es : List Entry) → T (finite_map.is_sorted order es) → T (finite_map.is_sorted by_text (marked (numbers es)))
  rising [] h = tt
  rising (e ∷ es) h = by (opens e) refl (rising es (and_second _ _ h))
    where
      by : (b : Bool) → opens e ≡ b → T (finite_map.is_sorted by_text (marked (numbers es)))
          → T (finite_map.is_sorted by_text (marked (map (λ (g : Entry). container_in g.0) (cond b (e ∷ filter opens es) (filter opens es)))))
      by true is rest = both _ _ (all_below e es is (and_first _ _ h)) rest
      by false is rest = rest

  pending_of : Option LineContent → Bool
  pending_of o = option_map_or (λ (l : LineContent). is_pending l.state) o false

  -- the key of the container is tied with an entry's if the container is its, and the entry is on the list
  tied : (b : BoxNumber) (e : Entry) → is_on call side e.0 ≡ true → eq_by_cmp order (line_key call side b) e.0 ≡ bytes_eq b (container_in e.0)
  tied b e on =
      ap (λ k. is_eq (order (line_key call side b) k)) (key_on call side e.0 on) ∙ ap is_eq (key_order call side b (container_in e.0)) ∙ same_eq (by_text b (container_in e.0)) ∙ sym (texts_ties b (container_in e.0))

  on_itself : (b : BoxNumber) → is_on call side (line_key call side b) ≡ true
  on_itself b = all_true (bytes_eq call.vessel call.vessel) (bytes_eq call.voyage call.voyage) (bytes_eq (side_code side ∷ []) (side_code side ∷ [])) (self call.vessel) (self call.voyage) (self (side_code side ∷ []))
    where
      self : (s : List ℕ) → bytes_eq s s ≡ true
      self s = texts_ties s s ∙ ap is_eq (self_tied s)

      all_true : (x y z : Bool) → x ≡ true → y ≡ true → z ≡ true → (x && (y && z)) ≡ true
      all_true true true true a b c = refl
      all_true false y z a b c = cc
      all_true true false z a b c = cc
      all_true true true false a b c = cc

  -- an entry off the list is not the container's
  untied : (b : BoxNumber) (e : Entry) → is_on call side e.0 ≡ false → eq_by_cmp order (line_key call side b) e.0 ≡ false
  untied b e off = by (eq_by_cmp order (line_key call side b) e.0) refl
    where
      by : (v : Bool) → eq_by_cmp order (line_key call side b) e.0 ≡ v → v ≡ false
      by true is = let bad : true ≡ false = sym (on_itself b) ∙ ap (is_on call side) (same_key (line_key call side b) e.0 is) ∙ off in bad
      by false is = refl

  above : (b : BoxNumber) (es : List Entry) → T (below_all order (line_key call side b) es) → list_any (bytes_eq b) (numbers es) ≡ false
  above b [] h = refl
  above b (e ∷ es) h = by (is_on call side e.0) (is_pending e.1.state) refl (above b es (and_second _ _ h))
    where
      less : (r : Ordering) → T (is_lt r) → is_eq r ≡ false
      less Less p = refl
      less Equal p = absurd p
      less Greater p = absurd p

      by : (v w : Bool) → is_on call side e.0 ≡ v → list_any (bytes_eq b) (numbers es) ≡ false
          → list_any (bytes_eq b) (map (λ (g : Entry). container_in g.0) (cond (v && w) (e ∷ filter opens es) (filter opens es))) ≡ false
      by true true on rest = ap (λ x. x || list_any (bytes_eq b) (numbers es)) (sym (tied b e on) ∙ less (order (line_key call side b) e.0) (and_first _ _ h)) ∙ rest
      by true false on rest = rest
      by false w on rest = rest

  listed : (b : BoxNumber) (es : List Entry) → T (finite_map.is_sorted order es) → list_any (bytes_eq b) (numbers es) ≡ pending_of (finite_map.find order (line_key call side b) es)
  unfolding pending_of
  listed b [] h = refl
  listed b (e ∷ es) h = by (is_on call side e.0) (is_pending e.1.state) (eq_by_cmp order (line_key call side b) e.0) refl refl refl (listed b es (and_second _ _ h))
    where
      by : (v w a : Bool) → is_on call side e.0 ≡ v → is_pending e.1.state ≡ w → eq_by_cmp order (line_key call side b) e.0 ≡ a
          → list_any (bytes_eq b) (numbers es) ≡ pending_of (finite_map.find order (line_key call side b) es)
          → list_any (bytes_eq b) (map (λ (g : Entry). container_in g.0) (cond (v && w) (e ∷ filter opens es) (filter opens es)))
          ≡ pending_of (cond a (Some e.1) (finite_map.find order (line_key call side b) es))
      by true true a on is at rest = tail (bytes_eq b (container_in e.0)) a (sym (tied b e on) ∙ at) rest
        where
          tail : (x y : Bool) → x ≡ y → list_any (bytes_eq b) (numbers es) ≡ pending_of (finite_map.find order (line_key call side b) es)
              → (x || list_any (bytes_eq b) (numbers es)) ≡ pending_of (cond y (Some e.1) (finite_map.find order (line_key call side b) es))
          tail true true q r = sym is
          tail true false q r = cc
          tail false true q r = cc
          tail false false q r = r
      by true false true on is at rest =
          let same : line_key call side b ≡ e.0 = same_key (line_key call side b) e.0 at in
          above b es (subst (λ k. T (below_all order k es)) (sym same) (and_first _ _ h)) ∙ sym is
      by true false false on is at rest = rest
      by false w true on is at rest = let bad : true ≡ false = sym at ∙ untied b e on in cc
      by false w false on is at rest = rest

-- ---- the laws

truth : (b : Bool) → T b → b ≡ true
truth true t = refl
truth false t = absurd t

holds : (b : Bool) → b ≡ true → T b
holds true e = tt
holds false e = cc

pub open_are : (lines : Lines) (call : CallContent) (side : Side) → AreOpenContainers lines call side (open_containers lines call side)
unfolding pending_of
open_are lines call side = record {
  rise = truth _ (rising call side (finite_map.entries lines) (finite_map.entries_sorted lines));
  each = λ b. listed call side b (finite_map.entries lines) (finite_map.entries_sorted lines) ∙ ap (pending_of call side) (sym (finite_map.get-entries lines (line_key call side b)));
}

mark_found : (b : BoxNumber) (containers : List BoxNumber) → finite_map.find by_text b (marked containers) ≡ cond (list_any (bytes_eq b) containers) (Some true) None
mark_found b [] = refl
mark_found b (c ∷ containers) = by (bytes_eq b c) (texts_ties b c) (mark_found b containers)
  where
    by : (v : Bool) → v ≡ eq_by_cmp by_text b c → finite_map.find by_text b (marked containers) ≡ cond (list_any (bytes_eq b) containers) (Some true) None
        → cond (eq_by_cmp by_text b c) (Some true) (finite_map.find by_text b (marked containers)) ≡ cond (v || list_any (bytes_eq b) containers) (Some true) None
    by true e rest = ap (λ x. cond x (Some true) (finite_map.find by_text b (marked containers))) (sym e)
    by false e rest = ap (λ x. cond x (Some true) (finite_map.find by_text b (marked containers))) (sym e) ∙ rest

unmarked : (containers : List BoxNumber) → map (λ (m : BoxNumber × Bool). m.0) (marked containers) ≡ containers
unmarked [] = refl
unmarked (c ∷ containers) = ap (λ cs. c ∷ cs) (unmarked containers)

pub one_list : (lines : Lines) (call : CallContent) (side : Side) (one other : List BoxNumber) → AreOpenContainers lines call side one → AreOpenContainers lines call side other → one ≡ other
one_list lines call side one other a b =
    let same : marked one ≡ marked other =
    same_entries by_text nat_list_cmp_total (finite_map.slice_cmp-IsAntisymmetric finite_map.nat_cmp-IsAntisymmetric) (marked one) (marked other) (holds _ a.rise) (holds _ b.rise)
    (λ q. mark_found q one ∙ ap (λ x. cond x (Some true) None) (a.each q ∙ sym (b.each q)) ∙ sym (mark_found q other)) in
    sym (unmarked one) ∙ ap (map (λ (m : BoxNumber × Bool). m.0)) same ∙ unmarked other
