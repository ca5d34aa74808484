use Rattle.std.proofs.{Common.{◌≡◌, ℕ, ◌≤◌, Ok, arith, true, subst, decimal}, lemmas.Fmt.parse-decimal}
use Rattle.office_loading.proofs.settings.limit_of.Goals as goal

pub returns-else-is_limit : goal.returns-else-is_limit
returns-else-is_limit c n low high e =
    let ok : c.parse.result ≡ Ok n = parse-decimal 32 n c.args.text.now c.parse.result (omega arith) (omega arith) e c.parse.ensures.value.0 in
    let was : c.parse.result ≡ Ok c.in-Ok.limit = c.in-Ok.is in
    let same : n ≡ c.in-Ok.limit = cc in
    let P : ℕ → Type 0 = λ m. (1 ≤ m) × (m ≤ 999999999) × (c.args.text.now ≡ decimal m) in
    let is : c.is_limit.result ≡ true = c.is_limit.ensures.1 (subst P same (low, high, e)) in
    cc

pub returns-in-Err : goal.returns-in-Err
returns-in-Err c n low high e =
    let ok : c.parse.result ≡ Ok n = parse-decimal 32 n c.args.text.now c.parse.result (omega arith) (omega arith) e c.parse.ensures.value.0 in
    let was = c.in-Err.is in
    cc
