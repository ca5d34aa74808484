use Rattle.std.proofs.{Common.{◌<◌, ◌∙◌, ◌++◌, ◌∷◌, [], List, ℕ, length, get_or, sym, ap, arith}, lemmas.List.{take_more, take_more_set, length-set}}
use Rattle.edi_syntax.proofs.cutter.front_of.Goals as goal

pub loop-i-preserved : goal.loop-i-preserved
loop-i-preserved c =
    let front = c.loop-i.front in
    let byte = get_or c.args.text.now c.loop-i.i 0 in
    let within : c.loop-i.i < length front = omega (arith, c.loop-i.invariant.long) in
    record {
      long = length-set front c.loop-i.i byte ∙ c.loop-i.invariant.long;
      filled = take_more_set front c.loop-i.i byte within ∙ ap (λ (t : List ℕ). t ++ byte ∷ []) c.loop-i.invariant.filled ∙ sym (take_more c.args.text.now c.loop-i.i 0 c.loop-i-test.true);
    }
