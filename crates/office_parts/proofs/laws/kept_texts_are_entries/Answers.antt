use Rattle.office_parts.proofs.Entries.{kept_texts_are_entries}
use Rattle.office_parts.proofs.laws.kept_texts_are_entries.Goals as goal

pub returns : goal.returns
returns c = kept_texts_are_entries
