use Rattle.office_pages.proofs.Ends.{without_end}
use Rattle.office_pages.proofs.archives.body_of.Goals as goal

pub returns : goal.returns
returns c =
    rw c.foot.ensures at (without_end c.foot.result.now c.args.page.now c.strip_suffix.result c.strip_suffix.ensures.cases)
