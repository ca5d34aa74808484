use Rattle.std.proofs.{Common.{◌≡◌, ◌≢◌, ◌⊎◌, ◌++◌, [], None, Some, inl, inr, refl, sym, ◌∙◌, arith, take}, KnownBytes.Consumes-trans, lemmas.Bool.ne_eqb}
use Rattle.edi_syntax.specs.Cuts.{pending_bytes}
use Rattle.office_replies.{specs.declared.stream.StreamEnd.TheVariants.{Whole, Open, Cut}, proofs.PartLemmas.on_ok}
use Rattle.office_replies.proofs.PlaceLemmas.{read_nothing, read_more, stopped, cut_at_end, cut_at_fault}
use Rattle.office_replies.proofs.StreamLemmas.{same_bytes, nothing_read, sofar_more, began, began_now, cut_short, piece_at, input_ends, stream_cut, finished, passed_on, nil_is, nil_is_not, err_weaker, is_err_and, starts_running, starts_empty, nothing_taken}
use Rattle.office_replies.proofs.stream.run_stream.Goals.{then-at_rest, else-at_rest}
use Rattle.office_replies.proofs.stream.run_stream.Goals as goal

pub reads-init : goal.reads-init
reads-init g c = record {
  running = starts_running c.new-cutter.result c.new-cutter.ensures;
  reader = refl;
  writer = refl;
  flushed = λ all. all;
  going = λ less. absurd (omega arith);
  in_time = λ going. refl;
  ended = λ going. going;
  most = omega arith;
  least = omega arith;
  sofar = nothing_read g.D.Deliver.leads c.args.desk.now _ (pending_bytes c.new-cutter.result) _ (starts_empty c.new-cutter.result c.new-cutter.ensures);
  placed = read_nothing (g.R.Read.remaining c.args.reader.now.inner) _ (pending_bytes c.new-cutter.result) refl (starts_empty c.new-cutter.result c.new-cutter.ensures);
}

pub reads-preserved : goal.reads-preserved
reads-preserved g c =
    let piece = take c.in-Ok.count c.read.new.buf in
    let q = pending_bytes c.reads.cutter in
    let q' = pending_bytes c.answer_piece.new.cutter in
    let done = piece_at g.D.Deliver.leads c.reads.desk c.in_ok-worst_now.fault None q' _ c.answer_piece.new.desk c.reads.worst c.in_ok-worst_now.worst_now _ _ c.in_default.is c.in_ok-worst_now.ensures.ok in
    record {
      running = c.in_ok-worst_now.ensures.running c.in_default.is;
      reader = c.in-Ok.ensures.succeeds ∙ c.reads.invariant.reader;
      writer = c.in_ok-worst_now.ensures.kept ∙ c.reads.invariant.writer;
      flushed = λ all. c.in_ok-worst_now.ensures.flushed (c.reads.invariant.flushed all);
      going = λ less. c.in-Ok.ensures.ended ∙ ne_eqb c.in-Ok.count 0 c.if-count-eq0.false;
      in_time = λ going. c.read.ensures.in_time (c.reads.invariant.ended going) ∙ c.reads.invariant.in_time going;
      ended = λ going. c.in-Ok.ensures.ended ∙ ne_eqb c.in-Ok.count 0 c.if-count-eq0.false;
      most = omega (arith, c.in-Ok.ensures.counted, c.reads.invariant.most);
      least = omega (arith, c.in-Ok.ensures.counted, c.reads.invariant.least);
      sofar = sofar_more g.D.Deliver.leads c.args.desk.now _ _ _ q q' piece c.reads.desk c.answer_piece.new.desk c.reads.worst c.in_ok-worst_now.worst_now _ _ _
          c.reads.invariant.sofar c.in-Ok.ensures.bytes.0 done;
      placed = read_more _ _ _ c.reads.place c.answer_piece.new.place q q' piece c.in_ok-worst_now.fault c.reads.invariant.placed c.in-Ok.ensures.bytes.0 c.in_default.is
          (λ bytes. c.in_ok-worst_now.ensures.placed bytes);
    }

-- ---- what was done

pub returns-in-Err-clause-streams : goal.returns-in-Err-clause-streams
returns-in-Err-clause-streams g c =
    began g.D.Deliver.leads c.args.desk.now _ _ _ (pending_bytes c.reads.cutter) c.reads.desk c.reads.worst _ _ c.reads.invariant.sofar c.in-Err.ensures.bytes

pub returns-then-count-eq0-clause-streams : goal.returns-then-count-eq0-clause-streams
returns-then-count-eq0-clause-streams g c =
    let reads = c.in-Ok.ensures.bytes in
    let none = c.if-count-eq0.true in
    let how : ((c.if-at_rest.end ≡ Whole) × (pending_bytes c.reads.cutter ≡ [])) ⊎ ((c.if-at_rest.end ≡ Open) × (pending_bytes c.reads.cutter ≢ [])) = elim c.if-at_rest.branch [
      | then-at_rest w ↦ inl (w.end-is, nil_is (pending_bytes c.reads.cutter) (sym c.at_rest.ensures ∙ w.if-at_rest.true))
      | else-at_rest w ↦ inr (w.end-is, nil_is_not (pending_bytes c.reads.cutter) (sym c.at_rest.ensures ∙ w.if-at_rest.false))
    ] in
    finished g.D.Deliver.leads c.args.desk.now _ _ c.if-at_rest.end c.reads.desk c.reads.worst _ _ _ c.finish.result _
    (input_ends g.D.Deliver.leads c.args.desk.now _ _ _ (pending_bytes c.reads.cutter) c.if-at_rest.end c.reads.desk c.reads.worst _ _
    c.reads.invariant.sofar (nothing_taken _ _ c.in-Ok.count c.read.new.buf none reads.0) (reads.1 none (omega (arith, c.read.auto.buf))) how)
    c.finish.ensures.ok c.finish.ensures.writes c.finish.ensures.err

pub returns-in_err-worst_now-clause-streams : goal.returns-in_err-worst_now-clause-streams
returns-in_err-worst_now-clause-streams g c =
    passed_on g.D.Deliver.leads c.args.desk.now _ c.answer_piece.new.desk c.from_residual.result _ c.in_err-worst_now.ensures.err.0 c.from_residual.ensures.1
    (cut_short g.D.Deliver.leads c.args.desk.now _ _ _ (pending_bytes c.reads.cutter) (take c.in-Ok.count c.read.new.buf) c.reads.desk c.answer_piece.new.desk c.reads.worst _ _ _
    c.reads.invariant.sofar c.in-Ok.ensures.bytes.0 c.in_err-worst_now.ensures.cut_short)

pub returns-in-Some-clause-streams : goal.returns-in-Some-clause-streams
returns-in-Some-clause-streams g c =
    let piece = take c.in-Ok.count c.read.new.buf in
    let q = pending_bytes c.reads.cutter in
    let q' = pending_bytes c.answer_piece.new.cutter in
    let done = piece_at g.D.Deliver.leads c.reads.desk c.in_ok-worst_now.fault (Some c.in-Some.fault) q' _ c.answer_piece.new.desk c.reads.worst c.in_ok-worst_now.worst_now _ _ c.in-Some.is c.in_ok-worst_now.ensures.ok in
    finished g.D.Deliver.leads c.args.desk.now _ _ (Cut c.in-Some.fault) c.answer_piece.new.desk c.in_ok-worst_now.worst_now _ _ _ c.finish-in-Some.result _
    (stream_cut g.D.Deliver.leads c.args.desk.now _ _ _ q q' piece c.in-Some.fault c.reads.desk c.answer_piece.new.desk c.reads.worst c.in_ok-worst_now.worst_now _ _ _
    c.reads.invariant.sofar c.in-Ok.ensures.bytes.0 done)
    c.finish-in-Some.ensures.ok c.finish-in-Some.ensures.writes c.finish-in-Some.ensures.err

pub returns-clause-streams : goal.returns-clause-streams
returns-clause-streams g c =
    began_now g.D.Deliver.leads c.args.desk.now _ _ (pending_bytes c.reads.cutter) c.reads.desk c.reads.worst _ _ c.reads.invariant.sofar

-- ---- where it is cut

pub returns-then-count-eq0-clause-cut : goal.returns-then-count-eq0-clause-cut
returns-then-count-eq0-clause-cut g c =
    let reads = c.in-Ok.ensures.bytes in
    let none = c.if-count-eq0.true in
    let sofar = c.reads.invariant.placed in
    let how : ((c.if-at_rest.end ≡ Whole) × (pending_bytes c.reads.cutter ≡ [])) ⊎ ((c.if-at_rest.end ≡ Open) × (pending_bytes c.reads.cutter ≢ [])) = elim c.if-at_rest.branch [
      | then-at_rest w ↦ inl (w.end-is, nil_is (pending_bytes c.reads.cutter) (sym c.at_rest.ensures ∙ w.if-at_rest.true))
      | else-at_rest w ↦ inr (w.end-is, nil_is_not (pending_bytes c.reads.cutter) (sym c.at_rest.ensures ∙ w.if-at_rest.false))
    ] in
    on_ok c.finish.result _
    (cut_at_end _ _ c.reads.place sofar.bytes (pending_bytes c.reads.cutter) c.if-at_rest.end c.finish.new.cut
    (same_bytes _ _ _ sofar.bytes sofar.reads (nothing_taken _ _ c.in-Ok.count c.read.new.buf none reads.0)) sofar.follows how c.finish.ensures.cut)

pub returns-in-Some-clause-cut : goal.returns-in-Some-clause-cut
returns-in-Some-clause-cut g c =
    let sofar = c.reads.invariant.placed in
    let piece = take c.in-Ok.count c.read.new.buf in
    on_ok c.finish-in-Some.result _
    (cut_at_fault _ _ c.answer_piece.new.place (sofar.bytes ++ piece) c.in-Some.fault c.finish-in-Some.new.cut
    (Consumes-trans _ _ _ sofar.bytes piece sofar.reads c.in-Ok.ensures.bytes.0)
    (stopped c.in_ok-worst_now.fault c.in-Some.fault c.answer_piece.new.place (sofar.bytes ++ piece) _ c.in-Some.is (c.in_ok-worst_now.ensures.placed sofar.bytes sofar.follows))
    c.finish-in-Some.ensures.cut)

-- ---- what was flushed

pub returns-in-Err-clause-told : goal.returns-in-Err-clause-told
returns-in-Err-clause-told g c = λ other all. c.reads.invariant.flushed all

pub returns-then-count-eq0-clause-told : goal.returns-then-count-eq0-clause-told
returns-then-count-eq0-clause-told g c = err_weaker c.finish.result _ _ (λ fault is other. absurd (other is.0)) c.finish.ensures.err

pub returns-in_err-worst_now-clause-told : goal.returns-in_err-worst_now-clause-told
returns-in_err-worst_now-clause-told g c =
    is_err_and c.from_residual.result _ _ (λ fault is other. absurd (other (is ∙ c.in_err-worst_now.ensures.err.0))) c.from_residual.ensures.1

pub returns-in-Some-clause-told : goal.returns-in-Some-clause-told
returns-in-Some-clause-told g c = err_weaker c.finish-in-Some.result _ _ (λ fault is other. absurd (other is.0)) c.finish-in-Some.ensures.err

pub returns-clause-told : goal.returns-clause-told
returns-clause-told g c = λ other all. c.reads.invariant.flushed all
