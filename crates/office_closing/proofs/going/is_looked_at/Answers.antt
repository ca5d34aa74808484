use Rattle.std.proofs.Common.{◌≡◌, inr, true, false, sym, ◌∙◌}
use Rattle.office_rows.specs.Rows.{listing_content}
use Rattle.office_closing.proofs.FoundLemmas.{found_tied}
use Rattle.office_closing.proofs.going.is_looked_at.Goals as goal

pub returns-else-is_last_list-clause-yes : goal.returns-else-is_last_list-clause-yes
returns-else-is_last_list-clause-yes c is = inr ((found_tied c.args.found.now (listing_content c.args.line.now)).0 (sym c.is_found.ensures ∙ is))

pub returns-else-is_last_list-clause-no : goal.returns-else-is_last_list-clause-no
returns-else-is_last_list-clause-no c off among =
    let is : c.is_found.result ≡ true = c.is_found.ensures ∙ (found_tied c.args.found.now (listing_content c.args.line.now)).1 among in
    let both : false ≡ true = sym off ∙ is in
    absurd cc
