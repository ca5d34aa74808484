use Rattle.office_archives.proofs.Asked.{asked_as_stores}
use Rattle.office_archives.proofs.laws.archives_are_asked_as_stores.Goals as goal

pub returns : goal.returns
returns c = asked_as_stores
