-- Parts that are gathered, and written in pieces.
use Rattle.std.specs.{Io.KnownBytes.{Appends, Keeps}, declared.io.ErrorKind.TheVariants.Interrupted, IoError.error_kind, declared.io.Error.Error, Borrow.Bor}
use Rattle.std.{specs.List.concat, proofs.{KnownBytes.{Appends-trans, Appends-kept, Appends-nil}, lemmas.Bool.{cases_Bool, false≢true}}}
use Rattle.std.proofs.Common.{◌≡◌, ℕ, List, [], ◌∷◌, ◌++◌, refl, sym, ap, subst, ◌∙◌, take, drop, Option, Result, Ok, Err, OnOk, OnErr, append_assoc, append-nil, true, false, None, Some, inl, inr, arith, ◌+◌, ◌<◌, ◌≤◌, Bool, IsTrue, get_or, length, length-append}
use Rattle.std.proofs.{lemmas.List.{take-append-drop, drop-drop, take_more, take_all}, lemmas.Grind.flat_map-append}
use Rattle.office_replies.specs.{declared.deliver.Response.Response, declared.deliver.Worst.Worst, declared.deliver.Worst.TheVariants.{Fine, Refused, NotNow}}
use Rattle.office_replies.specs.{Responses.{worst_of, worse_of}, Delivering.LeadsOn, StreamLines.worst_of_all, Fronts.AppendsFront, Pieces.LeavesOver}
use Rattle.office_replies.specs.Writes.{left_of, GoesOn, WritesOn, joined_parts, WritesOut, WritesEach, WritesPieces}
use Rattle.edi_syntax.specs.{Advice.without_breaks, Characters.is_break, Cuts.{is_whole, fault_of, IsInterchange, IsPending, Faults}, Positions.position_after}
use Rattle.edi_syntax.specs.{declared.cutter.CutFault.CutFault, Streams.CutsFrom}

-- ==== Answering: One answer more.

module _ {D : Type 0} (Call : D → List ℕ → Response → D → Type 0) where
  pub leads_both : (old mid new : D) (texts more : List (List ℕ)) (responses others : List Response) → LeadsOn Call old texts responses mid →
      LeadsOn Call mid more others new → LeadsOn Call old (texts ++ more) (responses ++ others) new
  leads_both old mid new [] more [] others same then = subst (λ d. LeadsOn Call d more others new) same then
  leads_both old mid new [] more (response ∷ responses) others none then = absurd none
  leads_both old mid new (text ∷ texts) more [] others none then = absurd none
  leads_both old mid new (text ∷ texts) more (response ∷ responses) others (next, call, rest) then =
      (next, call, leads_both next mid new texts more responses others rest then)

  pub leads_more : (old mid new : D) (texts : List (List ℕ)) (responses : List Response) (text : List ℕ) (response : Response) →
      LeadsOn Call old texts responses mid → Call mid text response new → LeadsOn Call old (texts ++ text ∷ []) (responses ++ response ∷ []) new
  leads_more old mid new texts responses text response before call = leads_both old mid new texts (text ∷ []) responses (response ∷ []) before (new, call, refl)

-- ---- the worst of the answers

pub worse_of-Fine : (worst : Worst) → worse_of worst Fine ≡ worst
worse_of-Fine Fine = refl
worse_of-Fine Refused = refl
worse_of-Fine NotNow = refl

pub worse_of-assoc : (a b c : Worst) → worse_of (worse_of a b) c ≡ worse_of a (worse_of b c)
worse_of-assoc NotNow b c = refl
worse_of-assoc Fine b c = refl
worse_of-assoc Refused NotNow c = refl
worse_of-assoc Refused Fine c = refl
worse_of-assoc Refused Refused NotNow = refl
worse_of-assoc Refused Refused Refused = refl
worse_of-assoc Refused Refused Fine = refl

pub worst_of_both : (responses others : List Response) → worst_of_all (responses ++ others) ≡ worse_of (worst_of_all responses) (worst_of_all others)
worst_of_both [] others = refl
worst_of_both (first ∷ responses) others =
    ap (worse_of (worst_of first)) (worst_of_both responses others) ∙ sym (worse_of-assoc (worst_of first) (worst_of_all responses) (worst_of_all others))

pub worst_of_more : (responses : List Response) (response : Response) → worst_of_all (responses ++ response ∷ []) ≡ worse_of (worst_of_all responses) (worst_of response)
worst_of_more responses response = worst_of_both responses (response ∷ []) ∙ ap (worse_of (worst_of_all responses)) (worse_of-Fine (worst_of response))

-- ==== Writing: What a failed write leaves of a text, and what a write after others makes.

pub in_two : (front rest : List ℕ) (n : ℕ) → front ++ rest ≡ (front ++ take n rest) ++ drop n rest
in_two front rest n = ap (λ y. front ++ y) (sym (take-append-drop n rest)) ∙ sym (append_assoc front (take n rest) (drop n rest))

-- a text that was written, and kept by a flush that failed
pub front_kept : (a b c : Option (List ℕ)) (text : List ℕ) → Appends a b text → Keeps b c → AppendsFront a c text
front_kept a b c text writes keeps = (text, ([], sym (append-nil text)), Appends-kept a b c text writes keeps)

pub on_ok : {T E : Type 0} (r : Result T E) (P : Type 0) → P → OnOk r P
on_ok (Ok value) P holds = holds
on_ok (Err e) P holds = tt

pub on_err : {T E : Type 0} (r : Result T E) (P : Type 0) → P → OnErr r P
on_err (Ok value) P holds = tt
on_err (Err e) P holds = holds

pub on_err_weaker : {T E : Type 0} (r : Result T E) (P Q : Type 0) → (P → Q) → OnErr r P → OnErr r Q
on_err_weaker (Ok value) P Q on holds = tt
on_err_weaker (Err e) P Q on holds = on holds

-- ==== Cutting: Interchanges one after the other, cut from a stream.

-- ---- line breaks at the front

break_front : (x : ℕ) (xs : List ℕ) → is_break x ≡ true → without_breaks (x ∷ xs) ≡ without_breaks xs
break_front x xs e = rw e refl

no_break_front : (x : ℕ) (xs : List ℕ) → is_break x ≡ false → without_breaks (x ∷ xs) ≡ x ∷ xs
no_break_front x xs e = rw e refl

-- the CR and LF at the front may be taken off before more bytes come
pub stripped_twice : (a b : List ℕ) → without_breaks (without_breaks a ++ b) ≡ without_breaks (a ++ b)
stripped_twice [] b = refl
stripped_twice (x ∷ xs) b = elim (cases_Bool (is_break x)) [
  | inl e ↦ ap (λ y. without_breaks (y ++ b)) (break_front x xs e) ∙ stripped_twice xs b ∙ sym (break_front x (xs ++ b) e)
  | inr e ↦ ap (λ y. without_breaks (y ++ b)) (no_break_front x xs e)
]

-- after a byte that is none of them all bytes stay
pub stripped_some : (a b : List ℕ) → (without_breaks a ≡ [] → ⊥) → without_breaks (a ++ b) ≡ without_breaks a ++ b
stripped_some [] b some = absurd (some refl)
stripped_some (x ∷ xs) b some = elim (cases_Bool (is_break x)) [
  | inl e ↦ break_front x (xs ++ b) e ∙ stripped_some xs b (λ none. some (break_front x xs e ∙ none)) ∙ ap (λ y. y ++ b) (sym (break_front x xs e))
  | inr e ↦ no_break_front x (xs ++ b) e ∙ ap (λ y. y ++ b) (sym (no_break_front x xs e))
]

-- ---- no bytes

pub nothing_pending : IsPending []
unfolding position_after
nothing_pending = ((refl, refl), λ m below. absurd (omega arith))

pub some_bytes : (text : List ℕ) → IsInterchange text → text ≡ [] → ⊥
some_bytes text is none = false≢true (sym nothing_pending.0.1 ∙ ap is_whole (sym none) ∙ is.1)

pub no_fault_there : (text : List ℕ) (fault : CutFault) → fault_of text ≡ None → fault_of text ≡ Some fault → ⊥
no_fault_there text fault none some = let both = sym none ∙ some in absurd cc

pub some_faulty : (text : List ℕ) (fault : CutFault) → Faults text fault → text ≡ [] → ⊥
some_faulty text fault faults none = no_fault_there text fault (ap fault_of none ∙ nothing_pending.0.0) faults.0

pub no_front : (a b : List ℕ) → a ++ b ≡ [] → a ≡ []
no_front [] b e = refl
no_front (x ∷ a) b e = absurd cc

-- ---- cutting

-- what stands at the front of a stream stands there when more bytes come
pub stripped_more : (text front behind : List ℕ) → (text ≡ [] → ⊥) → without_breaks front ≡ text → without_breaks (front ++ behind) ≡ text ++ behind
stripped_more text front behind some is = stripped_some front behind (λ none. some (sym is ∙ none)) ∙ ap (λ y. y ++ behind) is

-- more interchanges after those
pub cuts_more : (P Q : List ℕ → Type 0) (more : List (List ℕ)) → ((stream : List ℕ) → P (without_breaks stream) → CutsFrom Q stream more) →
    (stream : List ℕ) (texts : List (List ℕ)) → CutsFrom P stream texts → CutsFrom Q stream (texts ++ more)
cuts_more P Q more on stream [] cuts = on stream cuts
cuts_more P Q more on stream (text ∷ texts) (behind, is, cut, others) = (behind, is, cut, cuts_more P Q more on behind texts others)

-- another end
pub cuts_weaker : (P Q : List ℕ → Type 0) → ((rest : List ℕ) → P rest → Q rest) → (stream : List ℕ) (texts : List (List ℕ)) → CutsFrom P stream texts → CutsFrom Q stream texts
cuts_weaker P Q on stream [] cuts = on (without_breaks stream) cuts
cuts_weaker P Q on stream (text ∷ texts) (behind, is, cut, others) = (behind, is, cut, cuts_weaker P Q on behind texts others)

cuts_same : (P : List ℕ → Type 0) (stream stream' : List ℕ) (texts : List (List ℕ)) → without_breaks stream ≡ without_breaks stream' → CutsFrom P stream' texts → CutsFrom P stream texts
cuts_same P stream stream' [] same cuts = subst P (sym same) cuts
cuts_same P stream stream' (text ∷ texts) same (behind, is, cut, others) = (behind, is, same ∙ cut, others)

-- more bytes after those
pub cuts_join : (P : List ℕ → Type 0) (q piece stream : List ℕ) (texts more : List (List ℕ)) → CutsFrom (LeavesOver q) stream texts →
    CutsFrom P (q ++ piece) more → CutsFrom P (stream ++ piece) (texts ++ more)
cuts_join P q piece stream [] more left then =
    cuts_same P (stream ++ piece) (q ++ piece) more (sym (stripped_twice stream piece) ∙ ap (λ y. without_breaks (y ++ piece)) left.0) then
cuts_join P q piece stream (text ∷ texts) more (behind, is, cut, left) then =
    let some : without_breaks stream ≡ [] → ⊥ = λ none. some_bytes text is (no_front text behind (sym cut ∙ none)) in (
      behind ++ piece,
      is,
      stripped_some stream piece some ∙ ap (λ y. y ++ piece) cut ∙ append_assoc text behind piece,
      cuts_join P q piece behind texts more left then,
    )

-- ==== WriteLemmas: Writes, one after the other.

positive : (n : ℕ) → (n ≡ 0 → ⊥) → 0 < n
positive n not = omega arith

module _ {W : Type 0} (takes : W → List ℕ → Result ℕ Error → W → Type 0) where
  -- before the first
  pub none_written : (old : W) (bytes : List ℕ) → WritesOn takes old bytes [] old bytes
  unfolding WritesOn
  none_written old bytes = (refl, refl)

  -- one more
  pub one_more : (old : W) (bytes : List ℕ) (results : List (Result ℕ Error)) (mid : W) (left : List ℕ) (result : Result ℕ Error) (new : W) →
      WritesOn takes old bytes results mid left → takes mid left result new → GoesOn result → WritesOn takes old bytes (results ++ result ∷ []) new (left_of left result)
  unfolding WritesOn
  one_more old bytes [] mid left result new (same, all) call on =
      (new, subst (λ (w : W). takes w bytes result new) same (subst (λ (l : List ℕ). takes mid l result new) all call), on, (refl, subst (λ (l : List ℕ). left_of left result ≡ left_of l result) all refl))
  one_more old bytes (first ∷ results) mid left result new (next, called, went, rest) call on =
      (next, called, went, one_more next (left_of bytes first) results mid left result new rest call on)

  -- one more that took some of what is left
  pub one_taken : (old : W) (bytes : List ℕ) (results : List (Result ℕ Error)) (mid : W) (done count : ℕ) (given : List ℕ) (new : W) →
      given ≡ drop done bytes → (count ≡ 0 → ⊥) → WritesOn takes old bytes results mid (drop done bytes) → takes mid given (Ok count) new →
      WritesOn takes old bytes (results ++ Ok count ∷ []) new (drop (done + count) bytes)
  one_taken old bytes results mid done count given new is some before call =
      subst (λ (l : List ℕ). WritesOn takes old bytes (results ++ Ok count ∷ []) new l) (drop-drop count done bytes)
      (one_more old bytes results mid (drop done bytes) (Ok count) new before (subst (λ (l : List ℕ). takes mid l (Ok count) new) is call) (positive count some))

  -- one more that was interrupted
  pub one_interrupted : (old : W) (bytes : List ℕ) (results : List (Result ℕ Error)) (mid : W) (done : ℕ) (error : Error) (given : List ℕ) (new : W) →
      given ≡ drop done bytes → error_kind error ≡ Interrupted → WritesOn takes old bytes results mid (drop done bytes) → takes mid given (Err error) new →
      WritesOn takes old bytes (results ++ Err error ∷ []) new (drop done bytes)
  one_interrupted old bytes results mid done error given new is kind before call =
      one_more old bytes results mid (drop done bytes) (Err error) new before (subst (λ (l : List ℕ). takes mid l (Err error) new) is call) kind

-- ==== PartLemmas: Parts that are gathered, and written in pieces.

concat_more : (pieces : List (List ℕ)) (piece : List ℕ) → concat (pieces ++ piece ∷ []) ≡ concat pieces ++ piece
concat_more [] piece = append-nil piece
concat_more (first ∷ pieces) piece = ap (λ (l : List ℕ). first ++ l) (concat_more pieces piece) ∙ sym (append_assoc first (concat pieces) piece)

-- so many parts, and those after them
joined_at : (parts : List (Bor (List ℕ))) (i : ℕ) → joined_parts parts ≡ joined_parts (take i parts) ++ joined_parts (drop i parts)
joined_at parts i = ap joined_parts (sym (take-append-drop i parts)) ∙ flat_map-append (λ (part : Bor (List ℕ)). part.now) (take i parts) (drop i parts)

pub joined_more : (parts : List (Bor (List ℕ))) (i : ℕ) (d : Bor (List ℕ)) → i < length parts → joined_parts (take (i + 1) parts) ≡ joined_parts (take i parts) ++ (get_or parts i d).now
joined_more parts i d less =
    ap joined_parts (take_more parts i d less) ∙ flat_map-append (λ (part : Bor (List ℕ)). part.now) (take i parts) (get_or parts i d ∷ [])
    ∙ ap (λ (l : List ℕ). joined_parts (take i parts) ++ l) (append-nil (get_or parts i d).now)

pub joined_rest : (parts : List (Bor (List ℕ))) (i : ℕ) (d : Bor (List ℕ)) → i < length parts →
    joined_parts parts ≡ joined_parts (take i parts) ++ ((get_or parts i d).now ++ joined_parts (drop (i + 1) parts))
joined_rest parts i d less =
    joined_at parts (i + 1) ∙ ap (λ (l : List ℕ). l ++ joined_parts (drop (i + 1) parts)) (joined_more parts i d less)
    ∙ append_assoc (joined_parts (take i parts)) (get_or parts i d).now (joined_parts (drop (i + 1) parts))

pub joined_all : (parts : List (Bor (List ℕ))) (i : ℕ) → length parts ≤ i → joined_parts (take i parts) ≡ joined_parts parts
joined_all parts i le = ap joined_parts (take_all i parts le)

not_true : (b : Bool) → b ≡ false → IsTrue b → ⊥
not_true b is holds = cc

pub no_room : (b : Bool) (n m : ℕ) → (n ≤ m → IsTrue b) → b ≡ false → m < n
no_room b n m fits is =
    let none : n ≤ m → ⊥ = λ (le : n ≤ m). not_true b is (fits le) in
    omega arith

-- an error that is handed on
pub ok_absent : {T E : Type 0} (r : Result T E) (P : Type 0) (error : E) → r ≡ Err error → OnOk r P
ok_absent (Ok value) P error is = absurd (cc)
ok_absent (Err e) P error is = tt

module _ {W : Type 0} (takes : W → List ℕ → Result ℕ Error → W → Type 0) where
  -- a piece was written out
  abbrev pub IsOut : W → List ℕ → W → Type 0
  IsOut old piece new = WritesOut takes old piece (Ok tt) new

  pub out_as : (old : W) (given piece : List ℕ) (value : Unit {0}) (new : W) → given ≡ piece → WritesOut takes old given (Ok value) new → IsOut old piece new
  out_as old given piece value new is out =
      let there : IsOut old given new = record { results = out.results; left = out.left; mid = out.mid; went_on = out.went_on; ended = out.ended } in
      subst (λ (l : List ℕ). IsOut old l new) is there

  pub pieces_as : (old : W) (bytes : List ℕ) (r : Result (Unit {0}) Error) (error : Error) (new : W) → r ≡ Err error → WritesPieces takes old bytes (Err error) new → WritesPieces takes old bytes r new
  pieces_as old bytes r error new is there = subst (λ (s : Result (Unit {0}) Error). WritesPieces takes old bytes s new) (sym is) there

  each_more : (old : W) (pieces : List (List ℕ)) (mid : W) (piece : List ℕ) (new : W) →
      WritesEach takes old pieces mid → IsOut mid piece new → WritesEach takes old (pieces ++ piece ∷ []) new
  unfolding WritesEach
  each_more old [] mid piece new same out = (new, subst (λ (w : W). IsOut w piece new) same out, refl)
  each_more old (first ∷ pieces) mid piece new (next, led, rest) out = (next, led, each_more next pieces mid piece new rest out)

  none_same : (old : W) (pieces : List (List ℕ)) (new : W) → WritesEach takes old pieces new → pieces ≡ [] → new ≡ old
  unfolding WritesEach
  none_same old [] new same none = same
  none_same old (first ∷ pieces) new led none = absurd (cc)

  none_each : (old : W) → WritesEach takes old [] old
  unfolding WritesEach
  none_each old = refl

  module _ (contents : W → Option (List ℕ)) where
    -- Of these bytes pieces were written out, and the rest is held.
    pub record Gathers (first : W) (bytes : List ℕ) (now : W) (held : List ℕ) : Type 0 where
      pub pieces : List (List ℕ)
      pub each : WritesEach takes first pieces now
      pub appends : Appends (contents first) (contents now) (concat pieces)
      pub all : bytes ≡ concat pieces ++ held
      pub few : length bytes ≤ 4096 → pieces ≡ []

    pub gathers_none : (first : W) (held : List ℕ) → held ≡ [] → Gathers first [] first held
    gathers_none first held none = record { pieces = []; each = none_each first; appends = Appends-nil (contents first); all = sym none; few = λ short. refl }

    pub gathers_held : (first : W) (bytes : List ℕ) (now : W) (held part held' : List ℕ) →
        Gathers first bytes now held → held' ≡ held ++ part → Gathers first (bytes ++ part) now held'
    gathers_held first bytes now held part held' so is = record {
      pieces = so.pieces;
      each = so.each;
      appends = so.appends;
      all = ap (λ (l : List ℕ). l ++ part) so.all ∙ append_assoc (concat so.pieces) held part ∙ ap (λ (l : List ℕ). concat so.pieces ++ l) (sym is);
      few = λ short. so.few (omega (arith, length-append bytes part));
    }

    -- what is held is written out, and then a part for which there was no room
    pub gathers_out : (first : W) (bytes : List ℕ) (now : W) (held part : List ℕ) (mid new : W) (held' : List ℕ) →
        Gathers first bytes now held → IsOut now held mid → Appends (contents now) (contents mid) held →
        IsOut mid part new → Appends (contents mid) (contents new) part → 4096 < length held + length part → held' ≡ [] →
        Gathers first (bytes ++ part) new held'
    gathers_out first bytes now held part mid new held' so out appends out' appends' full none =
        let pieces = so.pieces ++ held ∷ [] in
        let is : concat (pieces ++ part ∷ []) ≡ bytes ++ part =
        concat_more pieces part ∙ ap (λ (l : List ℕ). l ++ part) (concat_more so.pieces held ∙ sym so.all) in
        record {
          pieces = pieces ++ part ∷ [];
          each = each_more first pieces mid part new (each_more first so.pieces now held mid so.each out) out';
          appends = subst (Appends (contents first) (contents new)) (sym (concat_more pieces part))
              (Appends-trans _ _ _ _ _ (subst (Appends (contents first) (contents mid)) (sym (concat_more so.pieces held)) (Appends-trans _ _ _ _ _ so.appends appends)) appends');
          all = sym is ∙ sym (append-nil _) ∙ ap (λ (l : List ℕ). concat (pieces ++ part ∷ []) ++ l) (sym none);
          few = λ short. absurd (omega (arith, length-append bytes part, ap length so.all, length-append (concat so.pieces) held));
        }

    -- what is held is written at last
    pub ends_out : (first : W) (bytes : List ℕ) (now : W) (held : List ℕ) (result : Result (Unit {0}) Error) (new : W) →
        Gathers first bytes now held → WritesOut takes now held result new → WritesPieces takes first bytes result new
    ends_out first bytes now held (Ok value) new so out = record {
      pieces = so.pieces ++ held ∷ [];
      mid = new;
      each = each_more first so.pieces now held new so.each out;
      ended = (so.all ∙ sym (concat_more so.pieces held), refl);
    }
    ends_out first bytes now held (Err error) new so out = record {
      pieces = so.pieces;
      mid = now;
      each = so.each;
      ended = (held, [], so.all ∙ ap (λ (l : List ℕ). concat so.pieces ++ l) (sym (append-nil held)), out);
    }

    -- a short text is written at once
    pub ends_together : (first : W) (bytes : List ℕ) (now : W) (held : List ℕ) (result : Result (Unit {0}) Error) (new : W) →
        Gathers first bytes now held → WritesOut takes now held result new → length bytes ≤ 4096 → WritesOut takes first bytes result new
    ends_together first bytes now held result new so out short =
        let none = so.few short in
        let same : now ≡ first = none_same first so.pieces now so.each none in
        let all : held ≡ bytes = sym (so.all ∙ ap (λ (l : List (List ℕ)). concat l ++ held) none) in
        subst (λ (l : List ℕ). WritesOut takes first l result new) all (subst (λ (w : W). WritesOut takes w held result new) same out)

    pub ends_appended : (first : W) (bytes : List ℕ) (now : W) (held : List ℕ) (new : W) →
        Gathers first bytes now held → Appends (contents now) (contents new) held → Appends (contents first) (contents new) bytes
    ends_appended first bytes now held new so appends = subst (Appends (contents first) (contents new)) (sym so.all) (Appends-trans _ _ _ _ _ so.appends appends)

    pub ends_front : (first : W) (bytes : List ℕ) (now : W) (held : List ℕ) (new : W) →
        Gathers first bytes now held → AppendsFront (contents now) (contents new) held → AppendsFront (contents first) (contents new) bytes
    ends_front first bytes now held new so (front, (behind, is), appends) =
        (concat so.pieces ++ front, (behind, so.all ∙ ap (λ (l : List ℕ). concat so.pieces ++ l) is ∙ sym (append_assoc (concat so.pieces) front behind)), Appends-trans _ _ _ _ _ so.appends appends)

    -- What is held could not be written, and more stands after it.
    pub stops_front : (first : W) (bytes more total : List ℕ) (now : W) (held : List ℕ) (new : W) → total ≡ bytes ++ more →
        Gathers first bytes now held → AppendsFront (contents now) (contents new) held → AppendsFront (contents first) (contents new) total
    stops_front first bytes more total now held new is so fails =
        let (front, (behind, all), appends) = ends_front first bytes now held new so fails in
        (front, (behind ++ more, is ∙ ap (λ (l : List ℕ). l ++ more) all ∙ append_assoc front behind more), appends)

    pub stops_out : (first : W) (bytes more total : List ℕ) (now : W) (held : List ℕ) (error : Error) (new : W) → total ≡ bytes ++ more →
        Gathers first bytes now held → WritesOut takes now held (Err error) new → WritesPieces takes first total (Err error) new
    stops_out first bytes more total now held error new is so out = record {
      pieces = so.pieces;
      mid = now;
      each = so.each;
      ended = (held, more, is ∙ ap (λ (l : List ℕ). l ++ more) so.all ∙ append_assoc (concat so.pieces) held more, out);
    }

    -- It was written, and the part after it could not be.
    pub gathers_passed : (first : W) (bytes : List ℕ) (now : W) (held part : List ℕ) (mid : W) →
        Gathers first bytes now held → IsOut now held mid → Appends (contents now) (contents mid) held → 4096 < length held + length part →
        Gathers first (bytes ++ part) mid part
    gathers_passed first bytes now held part mid so out appends full = record {
      pieces = so.pieces ++ held ∷ [];
      each = each_more first so.pieces now held mid so.each out;
      appends = subst (Appends (contents first) (contents mid)) (sym (concat_more so.pieces held)) (Appends-trans _ _ _ _ _ so.appends appends);
      all = ap (λ (l : List ℕ). l ++ part) (so.all ∙ sym (concat_more so.pieces held));
      few = λ short. absurd (omega (arith, length-append bytes part, ap length so.all, length-append (concat so.pieces) held));
    }
