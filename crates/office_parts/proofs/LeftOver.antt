-- Interchanges that are closed and still stand in a store.
use Rattle.std.{specs.Prelude.{find, filter, nat_le, not}, proofs.{lemmas.Bool.{le-leb, leb-true}, lemmas.List.Elements.filter-append}}
use Rattle.std.proofs.Common.{◌≡◌, ℕ, ◌<◌, ◌≤◌, List, [], ◌∷◌, ◌++◌, map, Bool, true, false, cond, Some, refl, sym, ap, ◌∙◌, arith}
use Rattle.terminal_core.specs.Rows.{ChangeContent, visit_opened, visit_closed, placed_at, moved_to, removed_from, listed_on, line_done, unlisted}
use Rattle.office_rows.specs.{Effects.{is_pair, with_taken, with_change}, Rows.{Interchange, Rows}}
use Rattle.office_history.{specs.Cascade.{TakenContent, with_changes, with_interchange, with_interchanges}, proofs.Runs.pair_of}
use Rattle.office_parts.specs.{Closing.{is_closed, is_beyond}, LeftOver.{rows_beyond, LeftOverTellNothing, LeftOverStayApart, LeftOverMayGo, RaisingCloses}}
use Rattle.office_parts.proofs.{Takings.all_own, Orders.{body_there, reply_there}}

-- a number that is beyond is not closed
pub far_beyond : (last_closed : ℕ → ℕ) (i : Interchange) (b : Bool) → nat_le i.number (last_closed i.partner) ≡ b → last_closed i.partner < i.number → not b ≡ true
far_beyond last_closed i true e far = absurd (omega (arith, leb-true i.number (last_closed i.partner) e, far))
far_beyond last_closed i false e far = refl

module _ (last_closed : ℕ → ℕ) where
  abbrev beyond : Interchange → Bool
  beyond = is_beyond last_closed

  -- ---- look-ups

  found_beyond : (p n : ℕ) (xs : List Interchange) → last_closed p < n → find (is_pair p n) (filter beyond xs) ≡ find (is_pair p n) xs
  found_beyond p n [] far = refl
  found_beyond p n (i ∷ xs) far = by (beyond i) (is_pair p n i) refl refl (found_beyond p n xs far)
    where
      by : (out is : Bool) → beyond i ≡ out → is_pair p n i ≡ is → find (is_pair p n) (filter beyond xs) ≡ find (is_pair p n) xs
          → find (is_pair p n) (cond out (i ∷ filter beyond xs) (filter beyond xs)) ≡ cond is (Some i) (find (is_pair p n) xs)
      by true is e f rest = ap (λ b. cond b (Some i) (find (is_pair p n) (filter beyond xs))) f ∙ ap (cond is (Some i)) rest
      by false false e f rest = rest
      by false true e f rest =
          let pair = pair_of p n i f in
          let own : last_closed i.partner ≡ last_closed p = ap last_closed pair.0 in
          let out : beyond i ≡ true = far_beyond last_closed i (is_closed last_closed i) refl (omega (arith, own, pair.1, far)) in
          let bad : true ≡ false = sym out ∙ e in
          cc

  -- ---- writes

  waiting_beyond : (p n : ℕ) (text : List ℕ) (xs : List Interchange) → last_closed p < n
      → filter beyond (xs ++ (record { partner = p; number = n; body = text; reply = [] }) ∷ []) ≡ filter beyond xs ++ (record { partner = p; number = n; body = text; reply = [] }) ∷ []
  waiting_beyond p n text xs far =
      let new : Interchange = record { partner = p; number = n; body = text; reply = [] } in
      filter-append beyond xs (new ∷ []) ∙ ap (λ b. filter beyond xs ++ cond b (new ∷ []) []) (far_beyond last_closed new (is_closed last_closed new) refl far)

  abbrev replied : ℕ → ℕ → List ℕ → Interchange → Interchange
  replied p n reply i = cond (is_pair p n i) (record i { reply = reply }) i

  same_place : (p n : ℕ) (reply : List ℕ) (i : Interchange) (is : Bool) → beyond (cond is (record i { reply = reply }) i) ≡ beyond i
  same_place p n reply i true = refl
  same_place p n reply i false = refl

  replied_cond : (p n : ℕ) (reply : List ℕ) (b : Bool) (i : Interchange) (xs : List Interchange) → map (replied p n reply) (cond b (i ∷ xs) xs) ≡ cond b (replied p n reply i ∷ map (replied p n reply) xs) (map (replied p n reply) xs)
  replied_cond p n reply true i xs = refl
  replied_cond p n reply false i xs = refl

  replied_beyond : (p n : ℕ) (reply : List ℕ) (xs : List Interchange) → filter beyond (map (replied p n reply) xs) ≡ map (replied p n reply) (filter beyond xs)
  replied_beyond p n reply [] = refl
  replied_beyond p n reply (i ∷ xs) =
      ap (λ b. cond b (replied p n reply i ∷ filter beyond (map (replied p n reply) xs)) (filter beyond (map (replied p n reply) xs))) (same_place p n reply i (is_pair p n i))
      ∙ ap (λ l. cond (beyond i) (replied p n reply i ∷ l) l) (replied_beyond p n reply xs)
      ∙ sym (replied_cond p n reply (beyond i) i (filter beyond xs))

  with_beyond : (rows : Rows) (xs : List Interchange) → filter beyond rows.interchanges ≡ xs → rows_beyond last_closed rows ≡ record rows { interchanges = xs }
  with_beyond rows xs e = ap (λ l. record rows { interchanges = l }) e

  change_beyond : (change : ChangeContent) (rows : Rows) → rows_beyond last_closed (with_change change rows) ≡ with_change change (rows_beyond last_closed rows)
  change_beyond (visit_opened visit) rows = refl
  change_beyond (visit_closed number departure) rows = refl
  change_beyond (placed_at container visit slot) rows = refl
  change_beyond (moved_to container slot) rows = refl
  change_beyond (removed_from container) rows = refl
  change_beyond (listed_on call side container port) rows = refl
  change_beyond (line_done call side container) rows = refl
  change_beyond (unlisted call side container) rows = refl

  changes_beyond : (changes : List ChangeContent) (rows : Rows) → rows_beyond last_closed (with_changes changes rows) ≡ with_changes changes (rows_beyond last_closed rows)
  changes_beyond [] rows = refl
  changes_beyond (change ∷ changes) rows = changes_beyond changes (with_change change rows) ∙ ap (with_changes changes) (change_beyond change rows)

  taken_beyond : (p n : ℕ) (reply : List ℕ) (rows : Rows) → rows_beyond last_closed (with_taken p n reply rows) ≡ with_taken p n reply (rows_beyond last_closed rows)
  taken_beyond p n reply rows = ap (λ l. record (with_taken p n reply rows) { interchanges = l }) (replied_beyond p n reply rows.interchanges)

  interchange_beyond : (p : ℕ) (t : TakenContent) (rows : Rows) → rows_beyond last_closed (with_interchange p t rows) ≡ with_interchange p t (rows_beyond last_closed rows)
  interchange_beyond p t rows = taken_beyond p t.number t.reply (with_changes t.changes rows) ∙ ap (with_taken p t.number t.reply) (changes_beyond t.changes rows)

  interchanges_beyond : (p : ℕ) (taken : List TakenContent) (rows : Rows) → rows_beyond last_closed (with_interchanges p taken rows) ≡ with_interchanges p taken (rows_beyond last_closed rows)
  interchanges_beyond p [] rows = refl
  interchanges_beyond p (t ∷ taken) rows = interchanges_beyond p taken (with_interchange p t rows) ∙ ap (with_interchanges p taken) (interchange_beyond p t rows)

  -- ---- deleting

  left_beyond : (deleted : Interchange → Bool) → ((i : Interchange) → deleted i ≡ true → is_closed last_closed i ≡ true) → (xs : List Interchange) → filter beyond (filter (λ i. not (deleted i)) xs) ≡ filter beyond xs
  left_beyond deleted closed [] = refl
  left_beyond deleted closed (i ∷ xs) = by (deleted i) refl (left_beyond deleted closed xs)
    where
      by : (gone : Bool) → deleted i ≡ gone → filter beyond (filter (λ i. not (deleted i)) xs) ≡ filter beyond xs
          → filter beyond (cond (not gone) (i ∷ filter (λ i. not (deleted i)) xs) (filter (λ i. not (deleted i)) xs)) ≡ cond (beyond i) (i ∷ filter beyond xs) (filter beyond xs)
      by true e rest = rest ∙ sym (ap (λ b. cond (not b) (i ∷ filter beyond xs) (filter beyond xs)) (closed i e))
      by false e rest = ap (λ l. cond (beyond i) (i ∷ l) l) rest

pub told_alike : LeftOverTellNothing
told_alike last_closed rows p n far = record {
  text = ap body_there (found_beyond last_closed p n rows.interchanges far);
  reply = ap reply_there (found_beyond last_closed p n rows.interchanges far);
}

pub stay_apart : LeftOverStayApart
stay_apart last_closed rows p n text taken far =
    let one = with_beyond last_closed (record rows { interchanges = rows.interchanges ++ (record { partner = p; number = n; body = text; reply = [] }) ∷ [] }) _ (waiting_beyond last_closed p n text rows.interchanges far) in
    record {
      waiting = one;
      run = interchanges_beyond last_closed p taken _ ∙ ap (with_interchanges p taken) one;
    }

pub may_go : LeftOverMayGo
may_go last_closed deleted rows closed = ap (λ l. record rows { interchanges = l }) (left_beyond last_closed deleted closed rows.interchanges)

-- ---- raising

module _ (before after : ℕ → ℕ) (grown : (p : ℕ) → before p ≤ after p) where
  still_beyond : (i : Interchange) → is_closed before i ≡ true → is_closed after i ≡ true
  still_beyond i e =
      let low = leb-true i.number (before i.partner) e in
      let more = grown i.partner in
      le-leb i.number (after i.partner) (omega (arith, low, more))

pub raising_closes : RaisingCloses
raising_closes before after rows grown =
    let left = left_beyond after (is_closed before) (still_beyond before after grown) rows.interchanges in
    λ i. record rows { interchanges = left i; visits = sym (all_own rows.visits) i }
