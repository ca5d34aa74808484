use Rattle.std.proofs.{Common.{◌+◌, ◌*◌, ◌-◌, inl, inr, refl, arith}, Math.Nat.eq-or-lt_of_le}
use Rattle.yard_core.proofs.LeastHeights.{all_higher, higher_among}
use Rattle.yard_core.proofs.columns.is_block_higher.Goals as goal

pub loop-bay-preserved : goal.loop-bay-preserved
loop-bay-preserved c =
    λ bay row low b r.
    let sized = c.requires.sized in
    let start = c.args.first + 12 * (c.loop-bay.bay - 1) in
    elim (eq-or-lt_of_le {n = c.loop-bay.bay - 1} {m = bay} low) [
      | inl same ↦ higher_among c.args.columns.now start c.args.block.rows c.args.height (c.args.first + 12 * bay + row)
          (omega (arith, c.requires.within, same, b, sized.1, sized.3)) (c.if-not-are_higher.ensures.0 refl) (omega (arith, same)) (omega (arith, same, r))
      | inr later ↦ c.loop-bay.invariant bay row (omega (arith, later)) b r
    ]

pub returns-then-not-are_higher : goal.returns-then-not-are_higher
returns-then-not-are_higher c = (
  λ e. (let no : ⊥ = cc in absurd no),
  λ high.
      let sized = c.requires.sized in
      let start = c.args.first + 12 * (c.loop-bay.bay - 1) in
      c.if-not-are_higher.ensures.1 (all_higher c.args.columns.now start c.args.block.rows c.args.height (omega (arith, c.requires.within, c.loop-bay-test.true, c.loop-bay.auto.bay, sized.1, sized.3))
      (λ row r. high (c.loop-bay.bay - 1) row (omega (arith, c.loop-bay-test.true, c.loop-bay.auto.bay)) r)),
)
