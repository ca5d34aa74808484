use Rattle.std.proofs.Common.{sym, ap, ◌∙◌}
use Rattle.office_reports.{specs.{Yard.{StandsAt, yard_text}, Lists.{HasLine, list_found}}, proofs.Standings.one_list}
use Rattle.office_reports.proofs.laws.reports_are_one.Goals as goal

pub returns-clause-yard : goal.returns-clause-yard
returns-clause-yard c state one other a b = a.is ∙ ap yard_text (one_list (StandsAt state) a.yard b.yard a.listed b.listed) ∙ sym b.is

pub returns-clause-list : goal.returns-clause-list
returns-clause-list c state call side one other a b = a.is ∙ ap (list_found call side) (one_list (HasLine state call side) a.list b.list a.listed b.listed) ∙ sym b.is
