use Rattle.std.proofs.Common.{◌≡◌, arith, rules, true, false}
use Rattle.office_closing.{specs.Register.sealed_content, proofs.Inserted.alike_at}
use Rattle.office_closing.proofs.sealed_archives.are_same_sealed.Goals as goal

pub returns-then-not-is_same_sealed : goal.returns-then-not-is_same_sealed
returns-then-not-is_same_sealed c = (
  λ e. absurd cc,
  λ same.
      let here = alike_at sealed_content c.args.one.now c.args.other.now c.loop-index.index c.index-one-index.result c.index-other-index.result (omega arith) (omega arith) same c.index-one-index.is c.index-other-index.is in
      let yes : c.is_same_sealed.result ≡ true = c.is_same_sealed.ensures.1 here in
      let no : c.is_same_sealed.result ≡ false = search rules in
      absurd cc,
)
