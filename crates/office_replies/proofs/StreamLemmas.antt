-- A stream, piece by piece.
use Rattle.std.{specs.Io.KnownBytes.{Appends, Consumes, Keeps, IsAtEnd}, proofs.{lemmas.Grind.flat_map-append, lemmas.List.append-nil, lemmas.Bool.eqb-true}}
use Rattle.std.proofs.Common.{◌≡◌, ℕ, List, [], ◌∷◌, ◌++◌, Option, None, Some, Result, Ok, Err, IfOk, IfErr, IsErrAnd, OnOk, Bool, true, false, cond, ◌≢◌, ◌⊎◌, inl, inr, take, arith, length, append_assoc, refl, sym, ap, subst, ◌∙◌}
use Rattle.std.proofs.KnownBytes.{Appends-trans, Consumes-trans, Consumes-kept, Consumes-nil, Appends-nil, Keeps-refl}
use Rattle.edi_syntax.specs.{Cuts.{Cutting, pending_bytes, is_whole, is_nil, IsPending}, declared.cutter.CutFault.CutFault, Streams.CutsFrom}
use Rattle.office_replies.specs.{declared.deliver.Response.Response, declared.deliver.Worst.Worst, declared.deliver.Worst.TheVariants.Fine, Responses.worse_of}
use Rattle.office_replies.specs.{Delivering.LeadsOn, Fronts.AppendsFront, StreamLines.{response_lines, worst_of_all, end_text, end_worst}}
use Rattle.office_replies.specs.Streams.{EndsAs, ReadsTo, GoesOnAnyhow, PortBytes, Streamed, Began, LineCutShort, EndCutShort, Delivered, Streams, port_bytes}
use Rattle.office_replies.specs.{Pieces.{EndsPiece, LeavesOver, PieceAnswered}, declared.stream.StreamFault.StreamFault, declared.stream.StreamEnd.StreamEnd}
use Rattle.office_replies.specs.{declared.stream.StreamFault.TheVariants.{Read, Write, Turns}, declared.stream.StreamEnd.TheVariants.{Whole, Open, Cut}}
use Rattle.office_replies.proofs.{PartLemmas.{leads_both, worst_of_both, cuts_join, cuts_weaker, nothing_pending}, PieceLemmas.piece_ends}

-- The interchanges of what was read were answered by their lines, and less than one is pending.
pub record Sofar {D : Type 0} (Call : D → List ℕ → Response → D → Type 0) (old : D)
    (left left' : Option (List ℕ)) (pending : List ℕ) (new : D) (worst : Worst) (written written' : Option (List ℕ)) : Type 0 where
  pub bytes : List ℕ
  pub reads : Consumes left left' bytes
  pub piece : PieceAnswered Call old (LeavesOver pending) bytes new Fine worst written written'

-- They are all that is to be answered: nothing but the cut line is to be written.
pub record AtEnd {D : Type 0} (Call : D → List ℕ → Response → D → Type 0) (old : D)
    (left left' : Option (List ℕ)) (end : StreamEnd) (new : D) (worst : Worst) (written written' : Option (List ℕ)) : Type 0 where
  pub bytes : List ℕ
  pub reads : Consumes left left' bytes
  pub ended : ReadsTo end left'
  pub piece : PieceAnswered Call old (EndsAs end) bytes new Fine worst written written'

pub same_bytes : (a b c : Option (List ℕ)) (bytes : List ℕ) → Consumes a b bytes → Consumes b c [] → Consumes a c bytes
same_bytes a b c bytes reads more = subst (Consumes a c) (append-nil bytes) (Consumes-trans a b c bytes [] reads more)

lines_both : (responses others : List Response) (part : List ℕ) → response_lines responses ++ (response_lines others ++ part) ≡ response_lines (responses ++ others) ++ part
lines_both responses others part =
    sym (append_assoc (response_lines responses) (response_lines others) part) ∙ ap (λ text. text ++ part) (sym (flat_map-append _ responses others))

pub nil_is : (q : List ℕ) → is_nil q ≡ true → q ≡ []
nil_is [] e = refl
nil_is (x ∷ xs) e = absurd (omega (arith, eqb-true (length (x ∷ xs)) 0 e))

not_both : (b : Bool) → b ≡ true → b ≡ false → ⊥
not_both b holds fails = cc

pub nil_is_not : (q : List ℕ) → is_nil q ≡ false → q ≢ []
nil_is_not q e none = not_both (is_nil q) (ap is_nil none) e

module _ {D : Type 0} (Call : D → List ℕ → Response → D → Type 0) (first : D) where
  -- by these calls the desk came to be so
  abbrev pub Calls : D → List (List ℕ) → List Response → Type 0
  Calls new texts responses = LeadsOn Call first texts responses new

  -- a piece after what was read before
  pieces_join : (P : List ℕ → Type 0) (bytes q piece : List ℕ) (old new : D) (worst worst' : Worst) (a b c : Option (List ℕ)) →
      PieceAnswered Call first (LeavesOver q) bytes old Fine worst a b → PieceAnswered Call old P (q ++ piece) new worst worst' b c →
      PieceAnswered Call first P (bytes ++ piece) new Fine worst' a c
  pieces_join P bytes q piece old new worst worst' a b c before then = record {
    texts = before.texts ++ then.texts;
    responses = before.responses ++ then.responses;
    cuts = cuts_join P q piece bytes before.texts then.texts before.cuts then.cuts;
    calls = leads_both Call first old new before.texts then.texts before.responses then.responses before.calls then.calls;
    is_worst = then.is_worst ∙ ap (λ w. worse_of w (worst_of_all then.responses)) before.is_worst ∙ sym (worst_of_both before.responses then.responses);
    writes = subst (Appends a c) (sym (flat_map-append _ before.responses then.responses)) (Appends-trans a b c (response_lines before.responses) (response_lines then.responses) before.writes then.writes);
  }

  pub sofar_more : (left mid left' : Option (List ℕ)) (q q' piece : List ℕ) (old new : D) (worst worst' : Worst) (a b c : Option (List ℕ)) →
      Sofar Call first left mid q old worst a b → Consumes mid left' piece → PieceAnswered Call old (EndsPiece None q') (q ++ piece) new worst worst' b c →
      Sofar Call first left left' q' new worst' a c
  sofar_more left mid left' q q' piece old new worst worst' a b c before reads next = record {
    bytes = before.bytes ++ piece;
    reads = Consumes-trans left mid left' before.bytes piece before.reads reads;
    piece = pieces_join (EndsPiece None q') before.bytes q piece old new worst worst' a b c before.piece next;
  }

  -- before the first read
  pub nothing_read : (left : Option (List ℕ)) (q : List ℕ) (a : Option (List ℕ)) → q ≡ [] → Sofar Call first left left q first Fine a a
  nothing_read left q a none = record {
    bytes = [];
    reads = Consumes-nil left;
    piece = record {
      texts = [];
      responses = [];
      cuts = (sym none, subst IsPending (sym none) nothing_pending);
      calls = refl;
      is_worst = refl;
      writes = Appends-nil a;
    };
  }

  -- a read that failed
  pub began : (left mid left' : Option (List ℕ)) (q : List ℕ) (new : D) (worst : Worst) (a b : Option (List ℕ)) →
      Sofar Call first left mid q new worst a b → Keeps mid left' → Began (Calls new) (port_bytes left left' a b)
  began left mid left' q new worst a b before same = record {
    bytes = before.bytes;
    texts = before.piece.texts;
    responses = before.piece.responses;
    reads = Consumes-kept left mid left' before.bytes before.reads same;
    cuts = cuts_weaker (LeavesOver q) IsPending (λ rest at. subst IsPending (sym at.0) at.1) before.bytes before.piece.texts before.piece.cuts;
    done = before.piece.calls;
    writes = before.piece.writes;
  }

  -- too many reads
  pub began_now : (left left' : Option (List ℕ)) (q : List ℕ) (new : D) (worst : Worst) (a b : Option (List ℕ)) →
      Sofar Call first left left' q new worst a b → Began (Calls new) (port_bytes left left' a b)
  began_now left left' q new worst a b before = began left left' left' q new worst a b before (Keeps-refl left')

  -- a write that failed, in the middle of a piece
  pub cut_short : (left mid left' : Option (List ℕ)) (q piece : List ℕ) (old new : D) (worst : Worst) (a b c : Option (List ℕ)) →
      Sofar Call first left mid q old worst a b → Consumes mid left' piece →
      LineCutShort (λ texts responses. LeadsOn Call old texts responses new) (q ++ piece) b c → Delivered (Calls new) (port_bytes left left' a c)
  cut_short left mid left' q piece old new worst a b c before reads then =
      let texts = before.piece.texts ++ (then.texts ++ then.last ∷ []) in
      let texts_are : texts ≡ (before.piece.texts ++ then.texts) ++ then.last ∷ [] = sym (append_assoc before.piece.texts then.texts (then.last ∷ [])) in
      let responses_are : before.piece.responses ++ (then.responses ++ then.response ∷ []) ≡ (before.piece.responses ++ then.responses) ++ then.response ∷ [] =
      sym (append_assoc before.piece.responses then.responses (then.response ∷ [])) in
      record {
        bytes = before.bytes ++ piece;
        reads = Consumes-trans left mid left' before.bytes piece before.reads reads;
        cut_short = inl (record {
          texts = before.piece.texts ++ then.texts;
          last = then.last;
          responses = before.piece.responses ++ then.responses;
          response = then.response;
          part = then.part;
          cuts = subst (CutsFrom GoesOnAnyhow (before.bytes ++ piece)) texts_are
              (cuts_join GoesOnAnyhow q piece before.bytes before.piece.texts (then.texts ++ then.last ∷ []) before.piece.cuts then.cuts);
          done = subst (λ all. LeadsOn Call first all ((before.piece.responses ++ then.responses) ++ then.response ∷ []) new) texts_are
              (subst (λ all. LeadsOn Call first texts all new) responses_are
              (leads_both Call first old new before.piece.texts (then.texts ++ then.last ∷ []) before.piece.responses (then.responses ++ then.response ∷ []) before.piece.calls then.done));
          front = then.front;
          writes = subst (Appends a c) (lines_both before.piece.responses then.responses then.part)
              (Appends-trans a b c (response_lines before.piece.responses) (response_lines then.responses ++ then.part) before.piece.writes then.writes);
        });
      }

  -- the end of the input
  pub input_ends : (left mid left' : Option (List ℕ)) (q : List ℕ) (end : StreamEnd) (new : D) (worst : Worst) (a b : Option (List ℕ)) →
      Sofar Call first left mid q new worst a b → Consumes mid left' [] → IsAtEnd left' →
      ((end ≡ Whole) × (q ≡ [])) ⊎ ((end ≡ Open) × (q ≢ [])) → AtEnd Call first left left' end new worst a b
  input_ends left mid left' q end new worst a b before reads ended how =
      let all = same_bytes left mid left' before.bytes before.reads reads in
      elim how [
        | inl whole ↦ subst (λ e. AtEnd Call first left left' e new worst a b) (sym whole.0) (record {
          bytes = before.bytes;
          reads = all;
          ended = ended;
          piece = piece_ends Call first (LeavesOver q) (EndsAs Whole) before.bytes new Fine worst a b (λ rest at. at.0 ∙ whole.1) before.piece;
        })
        | inr less ↦ subst (λ e. AtEnd Call first left left' e new worst a b) (sym less.0) (record {
          bytes = before.bytes;
          reads = all;
          ended = ended;
          piece = piece_ends Call first (LeavesOver q) (EndsAs Open) before.bytes new Fine worst a b
              (λ rest at. (subst IsPending (sym at.0) at.1, λ none. less.1 (sym at.0 ∙ none))) before.piece;
        })
      ]

  -- a stream that can't be cut further
  pub stream_cut : (left mid left' : Option (List ℕ)) (q q' piece : List ℕ) (fault : CutFault) (old new : D) (worst worst' : Worst) (a b c : Option (List ℕ)) →
      Sofar Call first left mid q old worst a b → Consumes mid left' piece → PieceAnswered Call old (EndsPiece (Some fault) q') (q ++ piece) new worst worst' b c →
      AtEnd Call first left left' (Cut fault) new worst' a c
  stream_cut left mid left' q q' piece fault old new worst worst' a b c before reads next = record {
    bytes = before.bytes ++ piece;
    reads = Consumes-trans left mid left' before.bytes piece before.reads reads;
    ended = tt;
    piece = pieces_join (EndsPiece (Some fault) q') before.bytes q piece old new worst worst' a b c before.piece next;
  }

  -- the last line
  streamed : (left left' : Option (List ℕ)) (end : StreamEnd) (new : D) (worst all : Worst) (a b c : Option (List ℕ)) →
      AtEnd Call first left left' end new worst a b → Appends b c (end_text end) → all ≡ worse_of worst (end_worst end) →
      Streamed (Calls new) (port_bytes left left' a c) all
  streamed left left' end new worst all a b c at writes is = record {
    bytes = at.bytes;
    texts = at.piece.texts;
    responses = at.piece.responses;
    end = end;
    reads = at.reads;
    ended = at.ended;
    cuts = at.piece.cuts;
    done = at.piece.calls;
    writes = Appends-trans a b c (response_lines at.piece.responses) (end_text end) at.piece.writes writes;
    is_worst = is ∙ ap (λ w. worse_of w (end_worst end)) at.piece.is_worst;
  }

  -- a write of it that failed
  end_cut_short : (left left' : Option (List ℕ)) (end : StreamEnd) (new : D) (worst : Worst) (a b c : Option (List ℕ)) →
      AtEnd Call first left left' end new worst a b → AppendsFront b c (end_text end) → Delivered (Calls new) (port_bytes left left' a c)
  end_cut_short left left' end new worst a b c at (part, front, writes) = record {
    bytes = at.bytes;
    reads = at.reads;
    cut_short = inr (record {
      texts = at.piece.texts;
      responses = at.piece.responses;
      end = end;
      part = part;
      ended = at.ended;
      cuts = at.piece.cuts;
      done = at.piece.calls;
      front = front;
      writes = Appends-trans a b c (response_lines at.piece.responses) part at.piece.writes writes;
    });
  }

  at_write : (ports : PortBytes) (new : D) (fault : StreamFault) → fault ≡ Write → Delivered (Calls new) ports → Streams (Calls new) ports (Err fault)
  at_write ports new fault is done = subst (λ f. Streams (Calls new) ports (Err f)) (sym is) done

  -- the last line, written or not
  pub finished : (left left' : Option (List ℕ)) (end : StreamEnd) (new : D) (worst : Worst) (a b c : Option (List ℕ)) (r : Result Worst StreamFault) (Failed : Type 0) →
      AtEnd Call first left left' end new worst a b → IfOk r (λ all. all ≡ worse_of worst (end_worst end)) → OnOk r (Appends b c (end_text end)) →
      IfErr r (λ fault. (fault ≡ Write) × Failed × AppendsFront b c (end_text end)) → Streams (Calls new) (port_bytes left left' a c) r
  finished left left' end new worst a b c (Ok all) Failed at is writes short = streamed left left' end new worst all a b c at writes is
  finished left left' end new worst a b c (Err fault) Failed at is writes short =
      at_write (port_bytes left left' a c) new fault short.0 (end_cut_short left left' end new worst a b c at short.2)

  -- a fault that is passed on
  pub passed_on : (ports : PortBytes) (new : D) (r : Result Worst StreamFault) (fault : StreamFault) → fault ≡ Write → IsErrAnd r (λ e. e ≡ fault) →
      Delivered (Calls new) ports → Streams (Calls new) ports r
  passed_on ports new (Ok worst) fault is none done = absurd none
  passed_on ports new (Err e) fault is same done = at_write ports new e (same ∙ is) done

pub piece_at : {D : Type 0} (Call : D → List ℕ → Response → D → Type 0) (old : D) (cut cut' : Option CutFault) (q' stream : List ℕ) (new : D) (before worst : Worst)
    (a b : Option (List ℕ)) → cut ≡ cut' → PieceAnswered Call old (EndsPiece cut q') stream new before worst a b → PieceAnswered Call old (EndsPiece cut' q') stream new before worst a b
piece_at Call old cut cut' q' stream new before worst a b is done = subst (λ c. PieceAnswered Call old (EndsPiece c q') stream new before worst a b) is done

-- ---- what was done, in other words

module _ (Done Other : List (List ℕ) → List Response → Type 0) (on : (texts : List (List ℕ)) (responses : List Response) → Done texts responses → Other texts responses) where
  began_as : (ports : PortBytes) → Began Done ports → Began Other ports
  began_as ports before = record {
    bytes = before.bytes;
    texts = before.texts;
    responses = before.responses;
    reads = before.reads;
    cuts = before.cuts;
    done = on before.texts before.responses before.done;
    writes = before.writes;
  }

  line_as : (stream : List ℕ) (written written' : Option (List ℕ)) → LineCutShort Done stream written written' → LineCutShort Other stream written written'
  line_as stream written written' short = record {
    texts = short.texts;
    last = short.last;
    responses = short.responses;
    response = short.response;
    part = short.part;
    cuts = short.cuts;
    done = on (short.texts ++ short.last ∷ []) (short.responses ++ short.response ∷ []) short.done;
    front = short.front;
    writes = short.writes;
  }

  end_as : (stream : List ℕ) (ports : PortBytes) → EndCutShort Done stream ports → EndCutShort Other stream ports
  end_as stream ports short = record {
    texts = short.texts;
    responses = short.responses;
    end = short.end;
    part = short.part;
    ended = short.ended;
    cuts = short.cuts;
    done = on short.texts short.responses short.done;
    front = short.front;
    writes = short.writes;
  }

  pub streams_as : (ports : PortBytes) (r : Result Worst StreamFault) → Streams Done ports r → Streams Other ports r
  streams_as ports (Ok worst) all = record {
    bytes = all.bytes;
    texts = all.texts;
    responses = all.responses;
    end = all.end;
    reads = all.reads;
    ended = all.ended;
    cuts = all.cuts;
    done = on all.texts all.responses all.done;
    writes = all.writes;
    is_worst = all.is_worst;
  }
  streams_as ports (Err Read) before = began_as ports before
  streams_as ports (Err Turns) before = began_as ports before
  streams_as ports (Err Write) delivered = record {
    bytes = delivered.bytes;
    reads = delivered.reads;
    cut_short = elim delivered.cut_short [
      | inl short ↦ inl (line_as delivered.bytes ports.written_before ports.written_after short)
      | inr short ↦ inr (end_as delivered.bytes ports short)
    ];
  }

-- ---- faults

pub err_weaker : {T E : Type 0} (r : Result T E) (P Q : E → Type 0) → ((e : E) → P e → Q e) → IfErr r P → IfErr r Q
err_weaker (Ok value) P Q on holds = tt
err_weaker (Err e) P Q on holds = on e holds

pub is_err_and : {T E : Type 0} (r : Result T E) (P Q : E → Type 0) → ((e : E) → P e → Q e) → IsErrAnd r P → IfErr r Q
is_err_and (Ok value) P Q on holds = tt
is_err_and (Err e) P Q on holds = on e holds

-- ---- the cutter and the buffer

pub starts_running : (k : Cutting) → k ≡ record { text = []; fault = None } → k.fault ≡ None
starts_running k is = ap (λ (x : Cutting). x.fault) is

nothing_pending_of : (b : Bool) (text : List ℕ) → text ≡ [] → cond b [] text ≡ []
nothing_pending_of true text none = refl
nothing_pending_of false text none = none

pub starts_empty : (k : Cutting) → k ≡ record { text = []; fault = None } → pending_bytes k ≡ []
starts_empty k is = nothing_pending_of (is_whole k.text) k.text (ap (λ (x : Cutting). x.text) is)

pub nothing_taken : (a b : Option (List ℕ)) (n : ℕ) (buffer : List ℕ) → n ≡ 0 → Consumes a b (take n buffer) → Consumes a b []
nothing_taken a b n buffer none reads = subst (λ m. Consumes a b (take m buffer)) none reads
