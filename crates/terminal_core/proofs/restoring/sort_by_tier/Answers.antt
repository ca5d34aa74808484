use Rattle.std.proofs.{Common.rules, lemmas.Result.on_ok_weaker, lemmas.List.Sorted.IsNonDecreasingBy-from_sort_by_key}
use Rattle.terminal_core.proofs.restoring.sort_by_tier.Goals as goal

pub returns-clause-sorted : goal.returns-clause-sorted
returns-clause-sorted c = on_ok_weaker c.sort_by_key.result (λ s. IsNonDecreasingBy-from_sort_by_key (λ place. place.slot.tier) _ s (λ a r q k. search rules)) c.sort_by_key.ensures.sorted
