use Rattle.std.{specs.Option.option_map, proofs.{Common.{◌≡◌, ◌+◌, sym, drop, arith, cond, false, None, ℕ, Option, Bool, true, refl}, lemmas.List.length-drop}}
use Rattle.edi_syntax.{specs.Reading.end_of, proofs.SegmentsLemmas.no_end}
use Rattle.edi_syntax.proofs.reader.len_of_body.Goals as goal

pub returns-then-bytes-lt3-clause-found : goal.returns-then-bytes-lt3-clause-found
returns-then-bytes-lt3-clause-found c =
    let none : end_of c.args.table.now.service false (drop 3 c.args.bytes.now) ≡ None = no_end c.args.table.now.service false (drop 3 c.args.bytes.now) (omega (arith, length-drop 3 c.args.bytes.now)) in
    sym (nothing _ _ none)
  where
    nothing : (b : Bool) (o : Option ℕ) → o ≡ None → cond b (option_map (λ n. 3 + n) o) None ≡ None
    nothing true o e = rw e refl
    nothing false o e = refl
