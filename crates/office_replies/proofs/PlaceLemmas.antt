-- The place of a stream, piece by piece.
use Rattle.std.{specs.Io.KnownBytes.Consumes, proofs.{KnownBytes.{Consumes-nil, Consumes-trans}, lemmas.Bool.cases_Bool}}
use Rattle.std.proofs.Common.{◌≡◌, ◌≢◌, ◌⊎◌, ℕ, ◌+◌, ◌-◌, ◌^◌, ◌≤◌, min, Bool, true, false, List, [], ◌∷◌, ◌++◌, length, take, drop, Option, None, Some, inl, inr, refl, sym, ap, subst, ◌∙◌, append_assoc, append-nil, arith}
use Rattle.std.proofs.lemmas.List.{length-append, length-drop, length-take-le}
use Rattle.edi_syntax.specs.{Advice.without_breaks, Characters.is_break, Reading.breaks_len, Cuts.{is_nil, IsPending}, Streams.CutsFrom}
use Rattle.edi_syntax.specs.declared.cutter.CutFault.{CutFault}
use Rattle.office_replies.specs.{Pieces.{EndsPiece, LeavesOver}, Streams.EndsAs, declared.line.Cut.Cut as StreamCut, declared.line.Place.Place}
use Rattle.office_replies.specs.Places.{capped_count, with_piece, with_passed, with_whole, cut_by, cut_behind, IsOver, CutsAt, Follows, StopsAt, PassesPiece}
use Rattle.office_replies.{specs.{declared.stream.StreamEnd.StreamEnd, declared.stream.StreamEnd.TheVariants.{Whole, Open, Cut}}, proofs.PieceLemmas.Used}
use Rattle.office_replies.proofs.{PartLemmas.{cuts_join, cuts_weaker, nothing_pending, stripped_some, stripped_twice}, StreamLemmas.nil_is}

-- ---- numbers

min_more : (n m top : ℕ) → min (min n top + m) top ≡ min (n + m) top
min_more n m top = omega arith

counted_more : (n m : ℕ) → capped_count (capped_count n + m) ≡ capped_count (n + m)
counted_more n m = min_more n m (2 ^ 64 - 1)

-- ---- lengths

breaks_within : (bytes : List ℕ) → breaks_len bytes ≤ length bytes
breaks_within [] = omega arith
breaks_within (x ∷ bytes) = elim (cases_Bool (is_break x)) [
  | inl e ↦ rw e (omega (arith, breaks_within bytes))
  | inr e ↦ rw e (omega arith)
]

stripped_length : (bytes : List ℕ) → length (without_breaks bytes) ≡ length bytes - breaks_len bytes
stripped_length bytes = length-drop (breaks_len bytes) bytes

-- what is left over begins with no CR or LF
left_stripped : (q bytes : List ℕ) (texts : List (List ℕ)) → CutsFrom (LeavesOver q) bytes texts → without_breaks q ≡ q
left_stripped q bytes [] left =
    let twice : without_breaks (without_breaks bytes ++ []) ≡ without_breaks (bytes ++ []) = stripped_twice bytes [] in
    ap without_breaks (sym left.0 ∙ sym (append-nil (without_breaks bytes))) ∙ twice ∙ ap without_breaks (append-nil bytes) ∙ left.0
left_stripped q bytes (text ∷ texts) (behind, is, cut, left) = left_stripped q behind texts left

-- ---- before a piece

piece_whole : (place : Place) (rest : List ℕ) (at_rest : Bool) → (with_piece place rest at_rest).whole ≡ place.whole
piece_whole place rest true = refl
piece_whole place rest false = refl

piece_passed : (place : Place) (rest : List ℕ) (at_rest : Bool) → (with_piece place rest at_rest).passed ≡ place.passed
piece_passed place rest true = refl
piece_passed place rest false = refl

begun_at_rest : (place : Place) (rest : List ℕ) (at_rest : Bool) → at_rest ≡ true → (with_piece place rest at_rest).begun ≡ capped_count (place.passed + breaks_len rest)
begun_at_rest place rest true e = refl
begun_at_rest place rest false e = absurd cc

begun_before : (place : Place) (rest : List ℕ) (at_rest : Bool) → at_rest ≡ false → (with_piece place rest at_rest).begun ≡ place.begun
begun_before place rest true e = absurd cc
begun_before place rest false e = refl

rest_begins : (bytes rest breaks stripped : ℕ) → breaks ≤ rest → stripped ≡ rest - breaks → (bytes + rest) - stripped ≡ bytes + breaks
rest_begins bytes rest breaks stripped within is = omega arith

not_nil : (q : List ℕ) → q ≢ [] → is_nil q ≡ false
not_nil q some = elim (cases_Bool (is_nil q)) [ inl e ↦ absurd (some (nil_is q e)) | inr e ↦ e ]

-- the bytes before what is left over after what is pending and the piece
pub met : (place : Place) (bytes q rest : List ℕ) (at_rest : Bool) → Follows place bytes q → at_rest ≡ is_nil q →
    (with_piece place rest at_rest).begun ≡ capped_count (length (bytes ++ rest) - length (without_breaks (q ++ rest)))
met place bytes [] rest at_rest follows is =
    begun_at_rest place rest at_rest is ∙ ap (λ n. capped_count (n + breaks_len rest)) follows.passed ∙ counted_more (length bytes) (breaks_len rest)
    ∙ ap capped_count (sym (ap (λ n. n - length (without_breaks rest)) (length-append bytes rest)
    ∙ rest_begins (length bytes) (length rest) (breaks_len rest) (length (without_breaks rest)) (breaks_within rest) (stripped_length rest)))
met place bytes (x ∷ xs) rest at_rest follows is =
    let q = x ∷ xs in
    let some : q ≢ [] = λ e. absurd cc in
    let stripped : without_breaks q ≡ q = left_stripped q bytes follows.texts follows.cuts in
    let left : without_breaks (q ++ rest) ≡ q ++ rest = stripped_some q rest (λ none. some (sym stripped ∙ none)) ∙ ap (λ y. y ++ rest) stripped in
    let same : length (bytes ++ rest) - length (without_breaks (q ++ rest)) ≡ length bytes - length q = omega (arith, ap length left, length-append q rest, length-append bytes rest) in
    begun_before place rest at_rest (is ∙ not_nil q some) ∙ follows.begun some ∙ ap capped_count (sym same)

-- ---- a piece

-- a front of a piece was passed, and this is left of it
pub record Followed (place : Place) (bytes piece rest q : List ℕ) : Type 0 where
  pub front : List ℕ
  pub parts : piece ≡ front ++ rest
  pub follows : Follows place (bytes ++ front) q

pub not_yet : (place : Place) (bytes piece q : List ℕ) → Follows place bytes q → Followed place bytes piece piece q
not_yet place bytes piece q follows = record { front = []; parts = refl; follows = subst (λ b. Follows place b q) (sym (append-nil bytes)) follows }

nothing_over : (q : List ℕ) → [] ≡ q → LeavesOver q []
nothing_over q none = (none, subst IsPending none nothing_pending)

-- an interchange more
follows_more : (place met now : Place) (bytes q rest text q' : List ℕ) (at_rest : Bool) (n : ℕ) → Follows place bytes q → Used q rest n text → n ≤ length rest → [] ≡ q' →
    met ≡ with_piece place rest at_rest → now ≡ with_whole met n → Follows now (bytes ++ take n rest) q'
follows_more place met now bytes q rest text q' at_rest n follows used within none is_met is_now =
    let many : length (follows.texts ++ text ∷ []) ≡ length follows.texts + 1 = length-append follows.texts (text ∷ []) in
    let long : length (bytes ++ take n rest) ≡ length bytes + n = length-append bytes (take n rest) ∙ ap (λ m. length bytes + m) (length-take-le n rest within) in
    let whole : met.whole ≡ capped_count (length follows.texts) = ap (λ (p : Place). p.whole) is_met ∙ piece_whole place rest at_rest ∙ follows.whole in
    let passed : met.passed ≡ capped_count (length bytes) = ap (λ (p : Place). p.passed) is_met ∙ piece_passed place rest at_rest ∙ follows.passed in
    record {
      texts = follows.texts ++ text ∷ [];
      cuts = cuts_join (LeavesOver q') q (take n rest) bytes follows.texts (text ∷ []) follows.cuts
          ([], used.is, used.cut ∙ sym (append-nil text), nothing_over q' none);
      whole = ap (λ (p : Place). p.whole) is_now ∙ ap (λ m. capped_count (m + 1)) whole ∙ counted_more (length follows.texts) 1 ∙ ap capped_count (sym many);
      passed = ap (λ (p : Place). p.passed) is_now ∙ ap (λ m. capped_count (m + n)) passed ∙ counted_more (length bytes) n ∙ ap capped_count (sym long);
      begun = λ some. absurd (some (sym none));
    }

pub followed_more : (place met now : Place) (bytes piece q rest text q' rest' : List ℕ) (at_rest : Bool) (n : ℕ) → Followed place bytes piece rest q → Used q rest n text → n ≤ length rest → [] ≡ q' →
    met ≡ with_piece place rest at_rest → now ≡ with_whole met n → drop n rest ≡ rest' → take n rest ++ drop n rest ≡ rest → Followed now bytes piece rest' q'
followed_more place met now bytes piece q rest text q' rest' at_rest n followed used within none is_met is_now behind whole = record {
  front = followed.front ++ take n rest;
  parts = followed.parts ∙ ap (λ y. followed.front ++ y) (sym whole) ∙ sym (append_assoc followed.front (take n rest) (drop n rest)) ∙ ap (λ y. (followed.front ++ take n rest) ++ y) behind;
  follows = subst (λ b. Follows now b q') (append_assoc bytes followed.front (take n rest))
      (follows_more place met now (bytes ++ followed.front) q rest text q' at_rest n followed.follows used within none is_met is_now);
}

-- the end of the piece
all_passed : (place : Place) (bytes piece rest q : List ℕ) (followed : Followed place bytes piece rest q) → (bytes ++ followed.front) ++ rest ≡ bytes ++ piece
all_passed place bytes piece rest q followed = append_assoc bytes followed.front rest ∙ ap (λ y. bytes ++ y) (sym followed.parts)

pub followed_whole : (place met now : Place) (bytes piece q rest q' : List ℕ) (at_rest : Bool) (n : ℕ) → Followed place bytes piece rest q → at_rest ≡ is_nil q → n ≡ length rest →
    met ≡ with_piece place rest at_rest → now ≡ with_passed met n → EndsPiece None q' (without_breaks (q ++ rest)) → Follows now (bytes ++ piece) q'
followed_whole place met_place now bytes piece q rest q' at_rest n followed resting all is_met is_now ends =
    let b = bytes ++ followed.front in
    let follows = followed.follows in
    let here : Follows now (b ++ rest) q' = record {
      texts = follows.texts;
      cuts = subst (λ t. CutsFrom (LeavesOver q') (b ++ rest) t) (append-nil follows.texts) (cuts_join (LeavesOver q') q rest b follows.texts [] follows.cuts ends);
      whole = ap (λ (p : Place). p.whole) is_now ∙ ap (λ (p : Place). p.whole) is_met ∙ piece_whole place rest at_rest ∙ follows.whole;
      passed = ap (λ (p : Place). p.passed) is_now ∙ ap (λ m. capped_count (m + n)) (ap (λ (p : Place). p.passed) is_met ∙ piece_passed place rest at_rest ∙ follows.passed)
          ∙ counted_more (length b) n ∙ ap capped_count (ap (λ m. length b + m) all ∙ sym (length-append b rest));
      begun = λ some. ap (λ (p : Place). p.begun) is_now ∙ ap (λ (p : Place). p.begun) is_met ∙ met place b q rest at_rest follows resting
          ∙ ap (λ l. capped_count (length (b ++ rest) - length l)) ends.0;
    } in
    subst (λ bytes. Follows now bytes q') (all_passed place bytes piece rest q followed) here

pub followed_cut : (place met : Place) (bytes piece q rest : List ℕ) (at_rest : Bool) (fault : CutFault) → Followed place bytes piece rest q → at_rest ≡ is_nil q →
    met ≡ with_piece place rest at_rest → EndsAs (Cut fault) (without_breaks (q ++ rest)) → StopsAt (Cut fault) met (bytes ++ piece)
followed_cut place met_place bytes piece q rest at_rest fault followed resting is_met ends =
    let b = bytes ++ followed.front in
    let follows = followed.follows in
    let over = without_breaks (q ++ rest) in
    let here : StopsAt (Cut fault) met_place (b ++ rest) = record {
      texts = follows.texts;
      rest = over;
      cuts = subst (λ t. CutsFrom (IsOver over (Cut fault)) (b ++ rest) t) (append-nil follows.texts) (cuts_join (IsOver over (Cut fault)) q rest b follows.texts [] follows.cuts (refl, ends));
      whole = ap (λ (p : Place). p.whole) is_met ∙ piece_whole place rest at_rest ∙ follows.whole;
      begun = ap (λ (p : Place). p.begun) is_met ∙ met place b q rest at_rest follows resting;
    } in
    subst (λ bytes. StopsAt (Cut fault) met_place bytes) (all_passed place bytes piece rest q followed) here

-- ---- the end

-- nothing was read
pub follows_start : (place : Place) (q : List ℕ) → place ≡ record { whole = 0; passed = 0; begun = 0 } → q ≡ [] → Follows place [] q
follows_start place q is none = record {
  texts = [];
  cuts = nothing_over q (sym none);
  whole = ap (λ (p : Place). p.whole) is;
  passed = ap (λ (p : Place). p.passed) is;
  begun = λ some. absurd (some none);
}

cut_open : (place : Place) (interchanges bytes : ℕ) → place.whole ≡ capped_count interchanges → place.begun ≡ capped_count bytes → cut_by place Open ≡ cut_behind Open interchanges bytes
cut_open place interchanges bytes whole begun =
    ap (λ n. Some (record { interchange = n; byte = capped_count (place.begun + 1); fault = None })) (ap (λ n. capped_count (n + 1)) whole ∙ counted_more interchanges 1)
    ∙ ap (λ n. Some (record { interchange = capped_count (interchanges + 1); byte = n; fault = None })) (ap (λ n. capped_count (n + 1)) begun ∙ counted_more bytes 1)

cut_faulty : (place : Place) (fault : CutFault) (interchanges bytes : ℕ) → place.whole ≡ capped_count interchanges → place.begun ≡ capped_count bytes →
    cut_by place (Cut fault) ≡ cut_behind (Cut fault) interchanges bytes
cut_faulty place fault interchanges bytes whole begun =
    ap (λ n. Some (record { interchange = n; byte = capped_count (place.begun + 1); fault = Some fault })) (ap (λ n. capped_count (n + 1)) whole ∙ counted_more interchanges 1)
    ∙ ap (λ n. Some (record { interchange = capped_count (interchanges + 1); byte = n; fault = Some fault })) (ap (λ n. capped_count (n + 1)) begun ∙ counted_more bytes 1)

-- the end of the input
pub cut_at_end : (left left' : Option (List ℕ)) (place : Place) (bytes q : List ℕ) (end : StreamEnd) (cut : Option StreamCut) → Consumes left left' bytes → Follows place bytes q →
    ((end ≡ Whole) × (q ≡ [])) ⊎ ((end ≡ Open) × (q ≢ [])) → cut ≡ cut_by place end → CutsAt left left' cut
cut_at_end left left' place bytes q end cut reads follows (inl whole) is = record {
  bytes = bytes;
  texts = follows.texts;
  rest = [];
  end = Whole;
  reads = reads;
  cuts = cuts_weaker (LeavesOver q) (IsOver [] Whole) (λ over at. (at.0 ∙ whole.1, at.0 ∙ whole.1)) bytes follows.texts follows.cuts;
  cut_is = is ∙ ap (cut_by place) whole.0;
}
cut_at_end left left' place bytes q end cut reads follows (inr less) is = record {
  bytes = bytes;
  texts = follows.texts;
  rest = q;
  end = Open;
  reads = reads;
  cuts = cuts_weaker (LeavesOver q) (IsOver q Open) (λ over at. (at.0, (subst IsPending (sym at.0) at.1, λ none. less.1 (sym at.0 ∙ none)))) bytes follows.texts follows.cuts;
  cut_is = is ∙ ap (cut_by place) less.0 ∙ cut_open place (length follows.texts) (length bytes - length q) follows.whole (follows.begun less.1);
}

-- a stream that can't be cut further
pub cut_at_fault : (left left' : Option (List ℕ)) (place : Place) (bytes : List ℕ) (fault : CutFault) (cut : Option StreamCut) → Consumes left left' bytes → StopsAt (Cut fault) place bytes →
    cut ≡ cut_by place (Cut fault) → CutsAt left left' cut
cut_at_fault left left' place bytes fault cut reads stops is = record {
  bytes = bytes;
  texts = stops.texts;
  rest = stops.rest;
  end = Cut fault;
  reads = reads;
  cuts = stops.cuts;
  cut_is = is ∙ cut_faulty place fault (length stops.texts) (length bytes - length stops.rest) stops.whole stops.begun;
}

-- what was read so far, and the place
pub record ReadSofar (left left' : Option (List ℕ)) (place : Place) (pending : List ℕ) : Type 0 where
  pub bytes : List ℕ
  pub reads : Consumes left left' bytes
  pub follows : Follows place bytes pending

pub read_nothing : (left : Option (List ℕ)) (place : Place) (q : List ℕ) → place ≡ record { whole = 0; passed = 0; begun = 0 } → q ≡ [] → ReadSofar left left place q
read_nothing left place q is none = record { bytes = []; reads = Consumes-nil left; follows = follows_start place q is none }

pub stopped : (cut : Option CutFault) (fault : CutFault) (place : Place) (bytes q : List ℕ) → cut ≡ Some fault → PassesPiece cut place bytes q → StopsAt (Cut fault) place bytes
stopped cut fault place bytes q is passes = subst (λ c. PassesPiece c place bytes q) is passes

pub read_more : (left mid left' : Option (List ℕ)) (place now : Place) (q q' piece : List ℕ) (cut : Option CutFault) → ReadSofar left mid place q → Consumes mid left' piece → cut ≡ None →
    ((bytes : List ℕ) → Follows place bytes q → PassesPiece cut now (bytes ++ piece) q') → ReadSofar left left' now q'
read_more left mid left' place now q q' piece cut sofar reads none passes = record {
  bytes = sofar.bytes ++ piece;
  reads = Consumes-trans left mid left' sofar.bytes piece sofar.reads reads;
  follows = subst (λ c. PassesPiece c now (sofar.bytes ++ piece) q') none (passes sofar.bytes sofar.follows);
}
