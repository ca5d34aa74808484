-- The journal of all files, with one archive more.
use Rattle.std.proofs.Common.{◌≡◌, ℕ, ◌+◌, ◌≤◌, zero, suc, List, [], ◌∷◌, ◌++◌, map, filter, length, drop, refl, sym, ap, subst, ◌∙◌, arith}
use Rattle.std.proofs.{lemmas.List.{drop_at, length-map, map-append}, lemmas.List.Elements.filter-append}
use Rattle.office_rows.specs.Rows.{Interchange}
use Rattle.office_parts.specs.{Archives.Archive, ArchiveJournal.{body_of, carried_on, journal_beyond, texts_added, texts_beyond}, Closing.is_beyond}
use Rattle.office_parts.{specs.{Copies.{closed_after, is_above}, InOrder.as_delivery, Journal.text_of}, proofs.Files.{above_twice, deliveries_beyond}}
use Rattle.office_closing.specs.{Arriving.arrivals, Copies.AreFirst, Journal.{ClosingsKeepJournal, carried_after}}

bodies_are : (interchanges : List Interchange) → map body_of interchanges ≡ map text_of (map as_delivery interchanges)
bodies_are [] = refl
bodies_are (i ∷ interchanges) = ap (λ bodies. i.body ∷ bodies) (bodies_are interchanges)

texts_are : (closed : ℕ → ℕ) (interchanges : List Interchange) → texts_beyond closed interchanges ≡ map text_of (arrivals closed interchanges)
texts_are closed interchanges = bodies_are (filter (is_beyond closed) interchanges)

drop_front : {X : Type 0} (n : ℕ) (xs ys : List X) → n ≤ length xs → drop n (xs ++ ys) ≡ drop n xs ++ ys
drop_front zero xs ys within = refl
drop_front (suc n) [] ys within = absurd (omega (arith, within))
drop_front (suc n) (x ∷ xs) ys within = drop_front n xs ys (omega (arith, within))

module _ (before then_ : ℕ → ℕ) (up : (partner : ℕ) → before partner ≤ then_ partner) where
  -- of what is beyond the one, what is beyond the other
  arrivals_then : (interchanges : List Interchange) → arrivals then_ interchanges ≡ filter (is_above then_) (arrivals before interchanges)
  arrivals_then interchanges =
      deliveries_beyond then_ interchanges ∙ sym (above_twice before then_ up (map as_delivery interchanges))
      ∙ ap (filter (is_above then_)) (sym (deliveries_beyond before interchanges))

  module _ (copy own left : List Interchange) (first : AreFirst (arrivals before copy) (arrivals before own)) (beyond : filter (is_above then_) first.0 ≡ first.0)
      (same : filter (is_beyond then_) left ≡ filter (is_beyond then_) own) where
    left_are : arrivals then_ left ≡ filter (is_above then_) (arrivals before copy) ++ first.0
    left_are =
        ap (map as_delivery) same ∙ arrivals_then own ∙ ap (filter (is_above then_)) first.1
        ∙ filter-append (is_above then_) (arrivals before copy) first.0
        ∙ ap (λ l. filter (is_above then_) (arrivals before copy) ++ l) beyond

    counted : length (map text_of (filter (is_above then_) (arrivals before copy))) ≡ carried_on before then_ copy
    counted =
        length-map (filter (is_above then_) (arrivals before copy)) text_of
        ∙ ap length (sym (deliveries_beyond then_ (filter (is_beyond before) copy)))
        ∙ length-map (filter (is_beyond then_) (filter (is_beyond before) copy)) as_delivery

    -- what the store adds after the copy
    left_adds : texts_added then_ (carried_on before then_ copy) left ≡ map text_of first.0
    left_adds =
        ap (drop (carried_on before then_ copy)) (texts_are then_ left ∙ ap (map text_of) left_are ∙ map-append text_of (filter (is_above then_) (arrivals before copy)) first.0)
        ∙ drop_at (map text_of (filter (is_above then_) (arrivals before copy))) (map text_of first.0) (carried_on before then_ copy) counted

    both_add : (carried : ℕ) → carried ≤ length (arrivals before copy) → texts_added before carried copy ++ texts_added then_ (carried_on before then_ copy) left ≡ texts_added before carried own
    both_add carried within =
        let enough : carried ≤ length (map text_of (arrivals before copy)) = subst (λ n. carried ≤ n) (sym (length-map (arrivals before copy) text_of)) within in
        (λ i. drop carried (texts_are before copy i) ++ left_adds i)
        ∙ sym (drop_front carried (map text_of (arrivals before copy)) (map text_of first.0) enough)
        ∙ ap (drop carried) (sym (map-append text_of (arrivals before copy) first.0) ∙ ap (map text_of) (sym first.1) ∙ sym (texts_are before own))

journal_same : (closed : ℕ → ℕ) (carried : ℕ) (archives : List Archive) (copy : Archive) (own left : List Interchange) → ((partner : ℕ) → closed_after closed archives partner ≤ copy.last_closed partner)
    → carried_after closed carried archives ≤ length (arrivals (closed_after closed archives) copy.rows.interchanges)
    → (first : AreFirst (arrivals (closed_after closed archives) copy.rows.interchanges) (arrivals (closed_after closed archives) own)) → filter (is_above copy.last_closed) first.0 ≡ first.0
    → filter (is_beyond copy.last_closed) left ≡ filter (is_beyond copy.last_closed) own
    → journal_beyond closed carried (archives ++ copy ∷ []) left ≡ journal_beyond closed carried archives own
journal_same closed carried [] copy own left rises carries first beyond same =
    both_add closed copy.last_closed rises copy.rows.interchanges own left first beyond same carried carries
journal_same closed carried (archive ∷ archives) copy own left rises carries first beyond same =
    ap (λ rest. texts_added closed carried archive.rows.interchanges ++ rest)
    (journal_same archive.last_closed (carried_on closed archive.last_closed archive.rows.interchanges) archives copy own left rises carries first beyond same)

pub journal_kept : ClosingsKeepJournal
journal_kept archives copy own left follows same =
    journal_same (λ partner. 0) 0 archives copy own left follows.rises follows.carries follows.first follows.beyond same
