use Rattle.std.{specs.Io.KnownBytes.Appends, proofs.{KnownBytes.{Appends-trans, Appends-kept, Appends-nil}, lemmas.List.take_rest}}
use Rattle.std.proofs.Common.{◌-◌, ◌++◌, ◌+◌, ◌∷◌, [], Ok, Err, ℕ, length, take, drop, sym, ap, subst, ◌∙◌, arith, refl, length-take, length-append}
use Rattle.office_replies.proofs.{PartLemmas.{none_written, one_taken, one_interrupted}, port.write_whole.Goals.{in-Ok, in-Err}}
use lib.Seq.{take-add, take-take}
use Rattle.office_replies.proofs.port.write_whole.Goals as goal

pub writes-init : goal.writes-init
writes-init g c = record {
  within = omega arith;
  appended = Appends-nil _;
  writes = ([], none_written g.W.Sink.takes c.args.writer.now c.args.bytes.now, refl);
}

pub writes-preserved : goal.writes-preserved
writes-preserved g c =
    let done = c.writes.written in
    let xs = c.args.bytes.now in
    let inv = c.writes.invariant in
    let results = inv.writes.0 in
    let rest = take_rest xs done in
    elim c.match-write_once.branch [
      | in-Ok w ↦
          let n = w.in-Ok.count in
          let fits = w.in-Ok.ensures.bound in
          let most = length-take (length xs - done) (drop done xs) in
          let joined = ap (λ l. take done xs ++ l) (take-take n (length xs - done) (drop done xs) (omega arith)) ∙ sym (take-add done n xs) in
          rw w.written-is record {
            within = omega arith;
            appended = subst (Appends _ _) joined (Appends-trans _ _ _ _ _ inv.appended w.in-Ok.ensures.bytes);
            writes = (results ++ Ok n ∷ [], one_taken g.W.Sink.takes _ xs results _ done n _ _ rest w.in-Ok.count-test.1 inv.writes.1 w.in-Ok.ensures.led, length-append results (Ok n ∷ []) ∙ ap (λ (k : ℕ). k + 1) inv.writes.2);
          }
      | in-Err w ↦
          rw w.written-is record {
            within = inv.within;
            appended = Appends-kept _ _ _ _ inv.appended w.in-Err.ensures.bytes;
            writes = (results ++ Err w.in-Err.error ∷ [], one_interrupted g.W.Sink.takes _ xs results _ done _ _ _ rest (w.if-is_interrupted.ensures.0 refl) inv.writes.1 w.in-Err.ensures.led, length-append results (Err w.in-Err.error ∷ []) ∙ ap (λ (k : ℕ). k + 1) inv.writes.2);
          }
    ]
