use Rattle.std.{specs.Map.values_of, proofs.Common.{sym, ap, ◌∙◌}}
use Rattle.office_reports.{specs.{Yard.StandsAt, Picture.page_text}, proofs.Standings.one_list}
use Rattle.office_reports.proofs.laws.pictures_are_one.Goals as goal

pub returns : goal.returns
returns c state name blocks one other a b = a.is ∙ ap (λ yard. page_text name blocks (values_of yard)) (one_list (StandsAt state) a.yard b.yard a.listed b.listed) ∙ sym b.is
