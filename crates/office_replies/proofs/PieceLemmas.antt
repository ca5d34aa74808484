-- A piece of a stream, one interchange after the other.
use Rattle.std.{specs.Io.KnownBytes.Appends, proofs.{KnownBytes.{Appends-trans, Appends-nil}, lemmas.Grind.flat_map-append, lemmas.List.append-nil}}
use Rattle.std.proofs.Common.{◌≡◌, ℕ, List, [], ◌∷◌, ◌++◌, take, drop, Option, None, Some, true, false, refl, sym, ap, subst, ◌∙◌}
use Rattle.edi_syntax.specs.{Advice.without_breaks, declared.cutter.CutFault.CutFault, declared.cutter.CutFault.TheVariants.{TooLong, Service, Segment, Memory}}
use Rattle.edi_syntax.specs.Cuts.{Cutting, is_whole, IsInterchange, IsPending, Answers, Fails, Faults, pending_bytes, interchange, HasNoFault}
use Rattle.edi_syntax.specs.Streams.{CutsFrom}
use Rattle.office_replies.specs.{declared.deliver.Response.Response, declared.deliver.Worst.Worst, Responses.{body_of, worst_of, worse_of}, Delivering.LeadsOn}
use Rattle.office_replies.specs.{StreamLines.{line, response_lines, worst_of_all}, Streams.{IsCutBy, GoesOnAnyhow, LineCutShort}}
use Rattle.office_replies.specs.Pieces.{AnsweredOne, DeliveredOne, EndsPiece, PieceAnswered}
use Rattle.office_replies.proofs.PartLemmas.{in_two, leads_more, worse_of-Fine, worse_of-assoc, worst_of_more, cuts_more, cuts_weaker, some_bytes, some_faulty, stripped_more}

-- these bytes are left, after these that are pending
abbrev pub IsLeft : List ℕ → List ℕ → List ℕ → Type 0
IsLeft pending rest left = left ≡ without_breaks (pending ++ rest)

lines_more : (responses : List Response) (response : Response) →
    response_lines (responses ++ response ∷ []) ≡ response_lines responses ++ line (body_of response)
lines_more responses response = flat_map-append _ responses (response ∷ []) ∙ ap (λ text. response_lines responses ++ text) (append-nil _)

worst_more : (before worst one : Worst) (responses : List Response) (response : Response) → worst ≡ worse_of before (worst_of_all responses) → one ≡ worst_of response →
    worse_of worst one ≡ worse_of before (worst_of_all (responses ++ response ∷ []))
worst_more before worst one responses response is one_is =
    ap (λ w. worse_of w one) is ∙ worse_of-assoc before (worst_of_all responses) one
    ∙ ap (λ w. worse_of before (worse_of (worst_of_all responses) w)) one_is ∙ ap (worse_of before) (sym (worst_of_more responses response))

-- what a call of the cutter used of a piece
pub record Used (q rest : List ℕ) (n : ℕ) (text : List ℕ) : Type 0 where
  pub is : IsInterchange text
  pub cut : without_breaks (q ++ take n rest) ≡ text

used_cuts : (P : List ℕ → Type 0) (q rest : List ℕ) (n : ℕ) (text : List ℕ) → Used q rest n text → P (without_breaks (drop n rest)) →
    (stream : List ℕ) → IsLeft q rest (without_breaks stream) → CutsFrom P stream (text ∷ [])
used_cuts P q rest n text used then stream left = (
  drop n rest,
  used.is,
  left ∙ ap without_breaks (in_two q rest n) ∙ stripped_more text (q ++ take n rest) (drop n rest) (some_bytes text used.is) used.cut,
  then,
)

module _ {D : Type 0} (Call : D → List ℕ → Response → D → Type 0) (first : D) where
  -- before the first interchange
  pub nothing_done : (q piece : List ℕ) (before : Worst) (a : Option (List ℕ)) → PieceAnswered Call first (IsLeft q piece) (q ++ piece) first before before a a
  nothing_done q piece before a = record {
    texts = [];
    responses = [];
    cuts = refl;
    calls = refl;
    is_worst = sym (worse_of-Fine before);
    writes = Appends-nil a;
  }

  pub piece_more : (stream q rest text q' rest' : List ℕ) (n : ℕ) (old new : D) (before worst one : Worst) (a b c : Option (List ℕ)) →
      PieceAnswered Call first (IsLeft q rest) stream old before worst a b → Used q rest n text → AnsweredOne Call old text new one b c →
      [] ≡ q' → drop n rest ≡ rest' → PieceAnswered Call first (IsLeft q' rest') stream new before (worse_of worst one) a c
  piece_more stream q rest text q' rest' n old new before worst one a b c done used next none behind =
      let left : IsLeft q' rest' (without_breaks (drop n rest)) =
      subst (λ p. without_breaks (drop n rest) ≡ without_breaks (p ++ rest')) none (ap without_breaks behind) in
      record {
        texts = done.texts ++ text ∷ [];
        responses = done.responses ++ next.response ∷ [];
        cuts = cuts_more (IsLeft q rest) (IsLeft q' rest') (text ∷ []) (used_cuts (IsLeft q' rest') q rest n text used left) stream done.texts done.cuts;
        calls = leads_more Call first old new done.texts done.responses text next.response done.calls next.call;
        is_worst = worst_more before worst one done.responses next.response done.is_worst next.is_worst;
        writes = subst (Appends a c) (sym (lines_more done.responses next.response)) (Appends-trans a b c (response_lines done.responses) (line (body_of next.response)) done.writes next.writes);
      }

  -- a write that failed
  pub piece_cut_short : (stream q rest text : List ℕ) (n : ℕ) (old new : D) (before worst : Worst) (a b c : Option (List ℕ)) →
      PieceAnswered Call first (IsLeft q rest) stream old before worst a b → Used q rest n text → DeliveredOne Call old text new b c →
      LineCutShort (λ texts responses. LeadsOn Call first texts responses new) stream a c
  piece_cut_short stream q rest text n old new before worst a b c done used next = record {
    texts = done.texts;
    last = text;
    responses = done.responses;
    response = next.response;
    part = next.writes.0;
    cuts = cuts_more (IsLeft q rest) GoesOnAnyhow (text ∷ []) (used_cuts GoesOnAnyhow q rest n text used tt) stream done.texts done.cuts;
    done = leads_more Call first old new done.texts done.responses text next.response done.calls next.call;
    front = next.writes.1;
    writes = Appends-trans a b c (response_lines done.responses) next.writes.0 done.writes next.writes.2;
  }

  -- another end
  pub piece_ends : (P Q : List ℕ → Type 0) (stream : List ℕ) (new : D) (before worst : Worst) (a b : Option (List ℕ)) → ((rest : List ℕ) → P rest → Q rest) →
      PieceAnswered Call first P stream new before worst a b → PieceAnswered Call first Q stream new before worst a b
  piece_ends P Q stream new before worst a b on done = record {
    texts = done.texts;
    responses = done.responses;
    cuts = cuts_weaker P Q on stream done.texts done.cuts;
    calls = done.calls;
    is_worst = done.is_worst;
    writes = done.writes;
  }

-- ---- what the cutter answers

-- a cutter that holds a whole interchange, or less
holds_whole : (c : Cutting) → is_whole c.text ≡ true → (interchange c ≡ c.text) × (pending_bytes c ≡ [])
holds_whole c whole = rw whole (refl, refl)

holds_less : (c : Cutting) → is_whole c.text ≡ false → pending_bytes c ≡ c.text
holds_less c less = rw less refl

pub ends_used_up : (q rest : List ℕ) (new : Cutting) → Answers q rest new None →
    (left : List ℕ) → IsLeft q rest left → EndsPiece None (pending_bytes new) left
ends_used_up q rest new answer left is =
    let text : new.text ≡ without_breaks (q ++ rest) = ap (λ (c : Cutting). c.text) answer.1 in
    let less : IsPending new.text = subst IsPending (sym text) answer.0 in
    let held : pending_bytes new ≡ new.text = holds_less new less.0.1 in
    (is ∙ sym text ∙ sym held, subst IsPending (sym held) less)

cut_by : (q rest : List ℕ) (n : ℕ) (fault : CutFault) → Faults (without_breaks (q ++ take n rest)) fault → (left : List ℕ) → IsLeft q rest left → IsCutBy fault left
cut_by q rest n fault faults left is =
    let front = without_breaks (q ++ take n rest) in (
      front,
      drop n rest,
      faults,
      is ∙ ap without_breaks (in_two q rest n) ∙ stripped_more front (q ++ take n rest) (drop n rest) (some_faulty front fault faults) refl,
    )

pub ends_cut : (q rest : List ℕ) (old new : Cutting) (fault : CutFault) → Fails old q rest new fault →
    (held left : List ℕ) → IsLeft q rest left → EndsPiece (Some fault) held left
ends_cut q rest old new TooLong (n, within, faults, then) held left is = cut_by q rest n TooLong faults left is
ends_cut q rest old new Service (n, within, faults, then) held left is = cut_by q rest n Service faults left is
ends_cut q rest old new Segment (n, within, faults, then) held left is = cut_by q rest n Segment faults left is
ends_cut q rest old new Memory (same, none) held left is = subst HasNoFault (sym is) none

pub used_some : (q rest : List ℕ) (new : Cutting) (n : ℕ) → Answers q rest new (Some n) → Used q rest n (interchange new) × (pending_bytes new ≡ []) × (new.fault ≡ None)
used_some q rest new n answer =
    let at : new ≡ record { text = without_breaks (q ++ take n rest); fault = None } = answer.3 in
    let text : new.text ≡ without_breaks (q ++ take n rest) = ap (λ (c : Cutting). c.text) at in
    let is : IsInterchange new.text = subst IsInterchange (sym text) answer.2 in
    let held = holds_whole new is.1 in
    (record { is = subst IsInterchange (sym held.0) is; cut = sym text ∙ sym held.0 }, held.1, ap (λ (c : Cutting). c.fault) at)
