use Rattle.std.proofs.Common.{◌≡◌, ◌*◌, Some, sym, subst}
use Rattle.yard_core.specs.{Plan.block_of, YardMap.{YardMap, placement_of}, Search.{IsInBlock, NoneOpen}, LeastHeights.AreAtLeast}
use Rattle.yard_core.proofs.LeastHeights.{none_open}
use Rattle.yard_core.proofs.yard.Yard.is_too_high.Goals as goal

pub returns : goal.returns
returns c =
    λ high size is_laden.
    let here = subst (λ (y : YardMap). block_of y.plan c.args.corner.block ≡ Some c.args.block) (sym c.self.view_is) c.requires in
    let over = subst (λ n. AreAtLeast c.self.inside.columns (480 * n) c.args.block c.args.corner.tier) c.position-position.ensures.exact (c.are_at_least.ensures high) in
    subst (λ (y : YardMap). NoneOpen y size is_laden (IsInBlock c.args.corner)) c.self.view_is
    (λ slot among open_to. none_open c.self.inside.plan c.self.inside.columns (placement_of c.self.inside.placements) c.self.invariant c.args.block c.args.corner here over size slot among open_to.open_)
