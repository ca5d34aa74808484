use Rattle.std.proofs.{Common.{None, Some, length, refl, sym, subst, ◌∙◌}, lemmas.List.{take_rest, take-append-drop}}
use Rattle.edi_syntax.specs.Cuts.{Answers, pending_bytes}
use Rattle.office_replies.proofs.PieceLemmas.{Used, nothing_done, piece_more, piece_cut_short, piece_ends, used_some, ends_used_up, ends_cut}
use Rattle.office_replies.proofs.{PlaceLemmas.{not_yet, followed_more, followed_whole, followed_cut}, PartLemmas.on_err}
use Rattle.office_replies.proofs.stream.answer_piece.Goals as goal

pub pieces-init : goal.pieces-init
pieces-init g c = record {
  running = c.requires;
  kept = refl;
  flushed = λ all. all;
  done = nothing_done g.D.Deliver.leads c.args.desk.now (pending_bytes c.args.cutter.now) c.args.piece.now _ _;
  placed = λ bytes follows. not_yet c.args.place.now bytes c.args.piece.now (pending_bytes c.args.cutter.now) follows;
}

pub pieces-preserved : goal.pieces-preserved
pieces-preserved g c =
    let q = pending_bytes c.pieces.cutter in
    let rest = c.pieces.rest.now in
    let n = c.in-Ok-Some.used in
    let answer : Answers q rest c.feed.new.self (Some n) = rw c.in-Ok-Some.field-0-is at (c.in-Ok-Some.ensures.ok c.pieces.invariant.running) in
    let some = used_some q rest c.feed.new.self n answer in
    let used : Used q rest n c.interchange.result.now = subst (Used q rest n) (sym c.interchange.ensures) some.0 in
    let one = c.in_ok-answer_one-in-Ok-Some.ensures in
    record {
      running = some.2;
      kept = one.kept ∙ c.pieces.invariant.kept;
      flushed = λ all. one.flushed;
      done = rw c.or-worst.ensures
          (piece_more g.D.Deliver.leads c.args.desk.now _ q rest c.interchange.result.now _ _ n c.pieces.desk c.answer_one.new.desk _ c.pieces.worst _ _ _ _
          c.pieces.invariant.done used one.ok (sym some.1) (sym (take_rest rest n)));
      placed = λ bytes follows.
          followed_more c.pieces.place c.meet.new.self c.complete.new.self bytes c.args.piece.now q rest c.interchange.result.now _ _ c.at_rest.result n
          (c.pieces.invariant.placed bytes follows) used answer.1 (sym some.1) c.meet.ensures c.complete.ensures (sym (take_rest rest n)) (take-append-drop n rest);
    }

pub returns-in_err-answer_one-in-Ok-Some-clause-cut_short : goal.returns-in_err-answer_one-in-Ok-Some-clause-cut_short
returns-in_err-answer_one-in-Ok-Some-clause-cut_short g c =
    let q = pending_bytes c.pieces.cutter in
    let rest = c.pieces.rest.now in
    let n = c.in-Ok-Some.used in
    let answer : Answers q rest c.feed.new.self (Some n) = rw c.in-Ok-Some.field-0-is at (c.in-Ok-Some.ensures.ok c.pieces.invariant.running) in
    let some = used_some q rest c.feed.new.self n answer in
    let used : Used q rest n c.interchange.result.now = subst (Used q rest n) (sym c.interchange.ensures) some.0 in
    on_err c.from_residual.result _
    (piece_cut_short g.D.Deliver.leads c.args.desk.now _ q rest c.interchange.result.now n c.pieces.desk c.answer_one.new.desk _ c.pieces.worst _ _ _
    c.pieces.invariant.done used c.in_err-answer_one-in-Ok-Some.ensures.delivered)

pub returns-in-Ok-None-clause-ok : goal.returns-in-Ok-None-clause-ok
returns-in-Ok-None-clause-ok g c =
    let q = pending_bytes c.pieces.cutter in
    let rest = c.pieces.rest.now in
    let answer : Answers q rest c.feed.new.self None = rw c.in-Ok-None.field-0-is at (c.in-Ok-None.ensures.ok c.pieces.invariant.running) in
    piece_ends g.D.Deliver.leads c.args.desk.now _ _ _ c.pieces.desk _ c.pieces.worst _ _
    (ends_used_up q rest c.feed.new.self answer) c.pieces.invariant.done

pub returns-in-Ok-None-clause-placed : goal.returns-in-Ok-None-clause-placed
returns-in-Ok-None-clause-placed g c bytes follows =
    let q = pending_bytes c.pieces.cutter in
    let rest = c.pieces.rest.now in
    let answer : Answers q rest c.feed.new.self None = rw c.in-Ok-None.field-0-is at (c.in-Ok-None.ensures.ok c.pieces.invariant.running) in
    followed_whole c.pieces.place c.meet.new.self c.pass.new.self bytes c.args.piece.now q rest (pending_bytes c.feed.new.self) c.at_rest.result (length rest)
    (c.pieces.invariant.placed bytes follows) c.at_rest.ensures refl c.meet.ensures c.pass.ensures (ends_used_up q rest c.feed.new.self answer _ refl)

pub returns-in-Err-clause-placed : goal.returns-in-Err-clause-placed
returns-in-Err-clause-placed g c bytes follows =
    let q = pending_bytes c.pieces.cutter in
    let rest = c.pieces.rest.now in
    followed_cut c.pieces.place c.meet.new.self bytes c.args.piece.now q rest c.at_rest.result c.in-Err.fault
    (c.pieces.invariant.placed bytes follows) c.at_rest.ensures c.meet.ensures
    (ends_cut q rest c.pieces.cutter c.feed.new.self c.in-Err.fault (c.in-Err.ensures.err c.pieces.invariant.running) (pending_bytes c.feed.new.self) _ refl)

pub returns-in-Err-clause-ok : goal.returns-in-Err-clause-ok
returns-in-Err-clause-ok g c =
    let q = pending_bytes c.pieces.cutter in
    let rest = c.pieces.rest.now in
    piece_ends g.D.Deliver.leads c.args.desk.now _ _ _ c.pieces.desk _ c.pieces.worst _ _
    (ends_cut q rest c.pieces.cutter c.feed.new.self c.in-Err.fault (c.in-Err.ensures.err c.pieces.invariant.running) (pending_bytes c.feed.new.self))
    c.pieces.invariant.done
