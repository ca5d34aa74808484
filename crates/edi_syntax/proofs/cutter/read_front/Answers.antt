-- Each byte leads to the end of the interchange, to a fault, or on; after the ninth the rest is read at once.
use Rattle.std.proofs.Common.{◌+◌, ◌∙◌, ◌++◌, List, ℕ, take, refl, sym, ap, subst, arith}
use Rattle.edi_syntax.specs.{Cuts.is_whole, Steps.Holds}
use Rattle.edi_syntax.proofs.FrontLemmas.{filled_none, filled_next, next_bytes, put_next, holds_next, refused_next, read_whole, read_all, closed_is, nine, read_later, refused_later}
use Rattle.edi_syntax.proofs.cutter.read_front.Goals as goal

pub loop-i-init : goal.loop-i-init
loop-i-init c = filled_none c.args.text.now c.args.piece.now _ _ c.front_of-front.ensures.long c.front_of-front.ensures.filled c.requires.short c.requires.holds c.requires.going

-- ---- after nine bytes

pub read_behind-requires-clause-holds : goal.read_behind-requires-clause-holds
read_behind-requires-clause-holds c =
    let all = nine c.args.text.now c.args.piece.now _ _ _ c.loop-i.invariant c.if-count-ge-ADVICE.true in
    subst (λ (t : List ℕ). Holds t c.loop-i.reading) (sym all) c.loop-i.invariant.holds

pub read_behind-requires-clause-going : goal.read_behind-requires-clause-going
read_behind-requires-clause-going c =
    ap is_whole (nine c.args.text.now c.args.piece.now _ _ _ c.loop-i.invariant c.if-count-ge-ADVICE.true) ∙ c.loop-i.invariant.going

pub returns-in-Ok-clause-ok : goal.returns-in-Ok-clause-ok
returns-in-Ok-clause-ok c =
    read_later c.args.text.now c.args.piece.now c.loop-i.front _ c.loop-i.i c.in-Ok.used c.in-Ok.reading
    (record { within = c.loop-i-test.true; rest_is = refl })
    (nine c.args.text.now c.args.piece.now _ _ _ c.loop-i.invariant c.if-count-ge-ADVICE.true)
    c.in-Ok.ensures.ok

pub returns-in-Err-clause-err : goal.returns-in-Err-clause-err
returns-in-Err-clause-err c =
    refused_later c.args.text.now c.args.piece.now c.loop-i.front _ c.loop-i.i c.in-Err.fault
    (record { within = c.loop-i-test.true; rest_is = refl })
    (nine c.args.text.now c.args.piece.now _ _ _ c.loop-i.invariant c.if-count-ge-ADVICE.true)
    c.in-Err.ensures.err

-- ---- the next byte

pub read_on-requires : goal.read_on-requires
read_on-requires c = record {
  grown = (
    c.args.text.now ++ take c.loop-i.i c.args.piece.now,
    put_next c.args.text.now c.args.piece.now c.loop-i.front c.loop-i.i c.loop-i.reading c.loop-i.invariant c.if-count-ge-ADVICE.false c.loop-i-test.true
        ∙ sym (next_bytes c.args.text.now c.args.piece.now c.loop-i.i c.loop-i-test.true),
    c.loop-i.invariant.holds.reads,
  );
}

pub returns-in-Err-read_on-clause-err : goal.returns-in-Err-read_on-clause-err
returns-in-Err-read_on-clause-err c =
    refused_next c.args.text.now c.args.piece.now _ c.loop-i.i c.loop-i.reading c.in-Err-read_on.fault c.loop-i.invariant.holds c.loop-i.invariant.going c.loop-i-test.true
    (put_next c.args.text.now c.args.piece.now c.loop-i.front c.loop-i.i c.loop-i.reading c.loop-i.invariant c.if-count-ge-ADVICE.false c.loop-i-test.true)
    c.in-Err-read_on.ensures.err

pub returns-then-is_whole-clause-ok : goal.returns-then-is_whole-clause-ok
returns-then-is_whole-clause-ok c =
    let same = put_next c.args.text.now c.args.piece.now c.loop-i.front c.loop-i.i c.loop-i.reading c.loop-i.invariant c.if-count-ge-ADVICE.false c.loop-i-test.true in
    let holds = holds_next c.args.text.now c.args.piece.now _ c.loop-i.i c.loop-i.reading c.in-Ok-read_on.next c.loop-i.invariant.holds c.loop-i.invariant.going c.loop-i-test.true c.requires.begins same c.in-Ok-read_on.ensures.ok in
    read_whole c.args.text.now c.args.piece.now (c.loop-i.i + 1) c.in-Ok-read_on.next (omega (arith, c.loop-i-test.true)) holds
    (sym (closed_is _ c.in-Ok-read_on.next holds) ∙ sym c.is_whole.ensures ∙ c.if-is_whole.true)

pub loop-i-preserved : goal.loop-i-preserved
loop-i-preserved c =
    let same = put_next c.args.text.now c.args.piece.now c.loop-i.front c.loop-i.i c.loop-i.reading c.loop-i.invariant c.if-count-ge-ADVICE.false c.loop-i-test.true in
    let holds = holds_next c.args.text.now c.args.piece.now _ c.loop-i.i c.loop-i.reading c.in-Ok-read_on.next c.loop-i.invariant.holds c.loop-i.invariant.going c.loop-i-test.true c.requires.begins same c.in-Ok-read_on.ensures.ok in
    filled_next c.args.text.now c.args.piece.now c.loop-i.front c.loop-i.i c.loop-i.reading c.in-Ok-read_on.next c.loop-i.invariant c.if-count-ge-ADVICE.false c.loop-i-test.true holds
    (sym (closed_is _ c.in-Ok-read_on.next holds) ∙ sym c.is_whole.ensures ∙ c.if-is_whole.false)

pub returns-clause-ok : goal.returns-clause-ok
returns-clause-ok c = read_all c.args.text.now c.args.piece.now c.loop-i.i c.loop-i.reading c.loop-i-test.false c.loop-i.invariant.holds
