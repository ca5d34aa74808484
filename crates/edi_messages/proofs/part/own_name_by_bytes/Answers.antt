-- A value that is longer than a name may be is kept as empty.
use Rattle.std.{specs.List.list_all, proofs.Common.{◌≡◌, ◌&&◌, ◌<◌, ℕ, Bool, true, false, cond, nat_le, List, [], ◌∷◌, ◌++◌, length, refl, ap, ◌∙◌, arith}}
use Rattle.std.proofs.lemmas.{Bool.lt-leb, List.length-append}
use Rattle.edi_syntax.specs.{Characters.is_printable, Segment.value}
use Rattle.edi_messages.specs.Orders.{name_kept}
use Rattle.edi_messages.proofs.part.own_name_by_bytes.Goals as goal

unnamed : (some within all : Bool) (text : List ℕ) → within ≡ false → [] ≡ cond (some && within && all) text []
unnamed true true all text outside = absurd cc
unnamed false true all text outside = absurd cc
unnamed true false true text outside = refl
unnamed true false false text outside = refl
unnamed false false true text outside = refl
unnamed false false false text outside = refl

longer_than_names : (text read left rest : List ℕ) (byte : ℕ) →
    text ≡ read ++ left → left ≡ byte ∷ rest → length read ≡ 35 → [] ≡ name_kept text
longer_than_names text read left rest byte whole more full =
    let long : 35 < length text = omega (arith, ap length whole, length-append read left, ap length more, full) in
    unnamed (nat_le 1 (length text)) (nat_le (length text) 35) (list_all is_printable text) text (lt-leb (length text) 35 long)

pub returns-then-len-eq-LONGEST_NAME : goal.returns-then-len-eq-LONGEST_NAME
returns-then-len-eq-LONGEST_NAME c =
    let i = c.loop-byte.invariant in
    let full : length c.loop-byte.yielded ≡ 35 = omega (arith, i.counted, c.if-len-eq-LONGEST_NAME.true) in
    c.new.ensures.bytes ∙ longer_than_names (value c.args.component) c.loop-byte.yielded _ _ _ i.passed c.in-Some.ensures.steps full
