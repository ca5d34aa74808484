-- Six and four digits, or no moment.
use Rattle.std.proofs.Common.{◌≡◌, ◌++◌, ◌&&◌, ℕ, List, Bool, true, false, None, cond, codes, length, nat_eq, sym, ap, ◌∙◌, refl}
use Rattle.std.proofs.lemmas.Bool.{and_left, and_right, and_from}
use Rattle.edi_syntax.specs.{Moments.moment_of, Segment.{content, value_of_length}, Header.{preparation_date, preparation_time}}
use Rattle.edi_syntax.proofs.BlockLemmas.{no_array, array_is}
use Rattle.edi_syntax.proofs.head.preparation.Goals as goal

pub returns-in_err-date : goal.returns-in_err-date
returns-in_err-date c =
    let header = content c.args.header.now in
    let short : nat_eq (length (preparation_date header)) 6 ≡ false = no_array 6 (preparation_date header) (c.in_err-date.ensures ∙ ap (value_of_length 6) c.component.ensures) in
    let no_moment : nat_eq (length (preparation_date header)) 6 && nat_eq (length (preparation_time header)) 4 ≡ false = and_left _ _ short in
    rw (c.from_residual.ensures, no_moment) refl

pub returns-in_err-time : goal.returns-in_err-time
returns-in_err-time c =
    let header = content c.args.header.now in
    let short : nat_eq (length (preparation_time header)) 4 ≡ false = no_array 4 (preparation_time header) (c.in_err-time.ensures ∙ ap (value_of_length 4) c.component-2.ensures) in
    let no_moment : nat_eq (length (preparation_date header)) 6 && nat_eq (length (preparation_time header)) 4 ≡ false = and_right _ _ short in
    rw (c.from_residual-in_err-time.ensures, no_moment) refl

pub returns : goal.returns
returns c =
    let header = content c.args.header.now in
    let date = array_is 6 (preparation_date header) c.in_ok-date.date (c.in_ok-date.ensures ∙ ap (value_of_length 6) c.component.ensures) in
    let time = array_is 4 (preparation_time header) c.in_ok-time.time (c.in_ok-time.ensures ∙ ap (value_of_length 4) c.component-2.ensures) in
    let long : nat_eq (length (preparation_date header)) 6 && nat_eq (length (preparation_time header)) 4 ≡ true = and_from _ _ date.0 time.0 in
    c.moment_in_century.ensures
    ∙ ap (λ (d : List ℕ). moment_of (codes "20" ++ d ++ c.in_ok-time.time)) (sym date.1)
    ∙ ap (λ (t : List ℕ). moment_of (codes "20" ++ preparation_date header ++ t)) (sym time.1)
    ∙ sym (ap (λ (b : Bool). cond b (moment_of (codes "20" ++ preparation_date header ++ preparation_time header)) None) long)
