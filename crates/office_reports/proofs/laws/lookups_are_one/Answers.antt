use Rattle.std.{specs.Map.values_of, proofs.Common.{ℕ, List, sym, ap, ◌∙◌}}
use Rattle.office_reports.specs.{declared.yard.Standing.Standing, Lists.HasLine, Yard.StandsAt, Blocks.{blocks_of, blocks_text}, Work.work_found}
use Rattle.office_reports.proofs.{Standings.one_list, Waits.texts_alike}
use Rattle.office_reports.proofs.laws.lookups_are_one.Goals as goal

pub returns-clause-blocks : goal.returns-clause-blocks
returns-clause-blocks c state one other a b = a.is ∙ ap (λ (yard : List (List ℕ × Standing)). blocks_text (blocks_of state (values_of yard))) (one_list (StandsAt state) a.yard b.yard a.listed b.listed) ∙ sym b.is

pub returns-clause-work : goal.returns-clause-work
returns-clause-work c state call side one other a b = a.is ∙ ap (work_found state call side) (one_list (HasLine state call side) a.list b.list a.listed b.listed) ∙ sym b.is

pub returns-clause-partners : goal.returns-clause-partners
returns-clause-partners c = texts_alike
