use Rattle.std.proofs.Common.{rules, ◌≡◌, ℕ, List, length, map, true, sym, ap, ◌∙◌, refl, subst}
use Rattle.yard_core.specs.declared.plan.Block.{Block}
use Rattle.office_loading.specs.{Accounts.AreWholeAccounts, Closed.{closed_content, last_closed}, Formed.{AreByLetter, AreTerminal, RefusesTerminal}}
use Rattle.office_loading.specs.{Contents.{partner_content, number_content, setting_content, opened_rows}, OwnOffice.AreOwnNumbers, Refusals.RefusesTables}
use Rattle.office_loading.specs.{Said.{set_up_with, AreSettings}, declared.numbers.PartnerRow.PartnerRow, declared.settings.Setting.Setting}
use Rattle.office_loading.proofs.Offices.{accounts_of_office, by_letter_of_office, tables_refused, office_of}
use Rattle.office_loading.proofs.restoring.restore.Goals as goal

pub returns-then-not-are_accounts-clause-refused : goal.returns-then-not-are_accounts-clause-refused
returns-then-not-are_accounts-clause-refused c content state office =
    let P : List PartnerRow → Type 0 = AreWholeAccounts in
    let is : c.are_accounts.result ≡ true = c.are_accounts.ensures.1 (subst P (sym c.deref-2.ensures.value) (accounts_of_office (closed_content c.args.closed.now) c.args.tables content state office)) in
    cc

pub returns-then-not-are_by_letter-clause-refused : goal.returns-then-not-are_by_letter-clause-refused
returns-then-not-are_by_letter-clause-refused c content state office =
    let P : List Block → Type 0 = AreByLetter in
    let is : c.are_by_letter.result ≡ true = c.are_by_letter.ensures.1 (subst P (sym c.deref-4.ensures.value) (by_letter_of_office (closed_content c.args.closed.now) c.args.tables content state office)) in
    cc

pub returns-in_err-terminal-clause-refused : goal.returns-in_err-terminal-clause-refused
returns-in_err-terminal-clause-refused c =
    let S : List Setting → Type 0 = λ rows. AreSettings (map setting_content rows) (set_up_with c.in_ok-said.said) in
    let settings = subst S c.deref.ensures.value c.in_ok-said.ensures.ok in
    let T : List Block → Type 0 = λ blocks.
    RefusesTerminal c.args.closed.now.newest_visit c.len.result c.in_ok-said.said.visit_limit blocks c.args.tables.visits.items c.args.tables.places.items c.args.tables.lines.items c.in_err-terminal.field-0.0 in
    let U : ℕ → Type 0 = λ n. RefusesTerminal c.args.closed.now.newest_visit n c.in_ok-said.said.visit_limit c.args.tables.blocks.items c.args.tables.visits.items c.args.tables.places.items c.args.tables.lines.items c.in_err-terminal.field-0.0 in
    let refuses : RefusesTables (closed_content c.args.closed.now) (opened_rows c.args.tables) c.in_err-terminal.field-0.0 =
    tables_refused (closed_content c.args.closed.now) c.args.tables (set_up_with c.in_ok-said.said) c.in_err-terminal.field-0.0 settings (subst U (c.len.ensures ∙ sym c.deref-2.ensures.len ∙ ap (λ (rows : List PartnerRow). length rows) c.deref-2.ensures.value) (subst T c.deref-5.ensures.value c.in_err-terminal.ensures.refused)) in
    search (rules, refuses)

pub returns-clause-ok : goal.returns-clause-ok
returns-clause-ok c =
    let S : List Setting → Type 0 = λ rows. AreSettings (map setting_content rows) (set_up_with c.in_ok-said.said) in
    let settings = subst S c.deref.ensures.value c.in_ok-said.ensures.ok in
    let A : List PartnerRow → Type 0 = AreWholeAccounts in
    let accounts = subst A c.deref-2.ensures.value (c.are_accounts.ensures.0 c.if-not-are_accounts.false) in
    let L : List Block → Type 0 = AreByLetter in
    let by_letter = subst L c.deref-4.ensures.value (c.are_by_letter.ensures.0 c.if-not-are_by_letter.false) in
    let K : List PartnerRow → Type 0 = λ rows. AreOwnNumbers (last_closed c.args.closed.now) (map partner_content rows) (map number_content c.args.tables.numbers.items) in
    let numbers = subst K c.deref-3.ensures.value (c.are_own_numbers.ensures.0 c.if-not-are_own_numbers.false) in
    let T : List Block → Type 0 = λ blocks. AreTerminal c.args.closed.now.newest_visit c.len.result c.in_ok-said.said.visit_limit blocks c.args.tables.visits.items c.args.tables.places.items c.args.tables.lines.items c.in_ok-terminal.terminal in
    let U : ℕ → Type 0 = λ n. AreTerminal c.args.closed.now.newest_visit n c.in_ok-said.said.visit_limit c.args.tables.blocks.items c.args.tables.visits.items c.args.tables.places.items c.args.tables.lines.items c.in_ok-terminal.terminal in
    let terminal = subst U (c.len.ensures ∙ sym c.deref-2.ensures.len ∙ ap (λ (rows : List PartnerRow). length rows) c.deref-2.ensures.value) (subst T c.deref-5.ensures.value c.in_ok-terminal.ensures.ok) in
    office_of (closed_content c.args.closed.now) c.args.tables _ c.in_ok-terminal.terminal (record { terminal = settings.terminal; codes = settings.codes; limit = settings.limit; are = settings.are }) accounts c.in_ok-partners.ensures refl numbers by_letter terminal
