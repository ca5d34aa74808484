-- That nothing is kept under a partner's next number.
use Rattle.std.{specs.Option.option_map, proofs.Common.{◌≡◌, ℕ, ◌+◌, ◌≤◌, List, [], ◌∷◌, Option, None, Some, Contains, refl, sym, ap, subst, ◌∙◌}}
use Rattle.sqlite.specs.{Effect.Database, State.State}
use Rattle.partner_core.{specs.{Deliveries.{Delivery, run}, Numbered.with_number}, proofs.Orders.free_after_run}
use Rattle.terminal_core.specs.State.{TerminalState}
use Rattle.office_replies.specs.Events.{Event}
use Rattle.office_rows.specs.{Rows.{Interchange, Rows}, Stored.HasRows}
use Rattle.office_admission.specs.Setups.{SetupContent}
use Rattle.office_loading.specs.Closed.{ClosedContent}
use Rattle.office_tables.{specs.{Answers.{IsKept, pair_of}, declared.interchanges.Kept.Kept}, proofs.WriteLemmas.{no_text, one_kept}}
use Rattle.office_history.{specs.{After.{AreKeptOnce, deliveries_of}, Cascade.text_in}, proofs.Kept.head_in}
use Rattle.office_desk.specs.{Finding.KeepsBeside, Kept.Office, Offices.HoldsOffice, Taking.IsNew, Telling.Holds, declared.beside.Beside.Beside}
use Rattle.office_desk.proofs.{HoldLemmas.next_is, KeptLemmas.next_found, DeliverLemmas.{keeps_accounts, next_follows}}

-- a number with no text has no interchange
none_in : (partner number : ℕ) (rows : Rows) → AreKeptOnce rows.interchanges → text_in rows partner number ≡ None → IsKept partner number rows None
none_in partner number rows once free = at (pair_of partner number rows) refl
  where
    at : (pairs : List Interchange) → pair_of partner number rows ≡ pairs → pair_of partner number rows ≡ []
    at [] e = e
    at (i ∷ later) e =
        let inside : Contains (pair_of partner number rows) i = subst (λ l. Contains l i) (sym e) (head_in i later) in
        let there : text_in rows partner number ≡ Some i.body = ap (option_map (λ (x : Interchange). x.body)) (one_kept partner number rows i once inside) in
        let never : Some i.body ≡ None = sym there ∙ free in cc

-- what any rows keep, those keep that this stands beside
pub read_beside : (closed : ClosedContent) (partner number : ℕ) (db : Database) (there : Beside) (kept : Option Kept) → ((rows : Rows) → HasRows rows db → IsKept partner number rows kept) → KeepsBeside closed partner number db there kept
read_beside closed partner number db there kept each = record { events = λ content es rows has after at. each rows has; office = λ content rows terminal holds. each rows holds.has }

-- nothing is kept under the number that is next
pub next_beside : (closed : ClosedContent) (partner number : ℕ) (db : Database) (there : Beside) → 1 ≤ partner → with_number there.nexts.items partner ≡ Some number → KeepsBeside closed partner number db there None
next_beside closed partner number db there one is = record {
  events = λ content es rows has after at.
      let D = deliveries_of content es in
      let next : number ≡ run D partner + 1 = next_is content es there partner number at is in
      none_in partner number rows after.kept_once (ap (text_in rows partner) next ∙ after.texts partner (run D partner + 1) ∙ free_after_run D partner);
  office = λ content rows terminal holds.
      let its = (keeps_accounts closed content rows terminal db holds.has holds.loads).0 in
      let old : Office = record { rows = rows; terminal = terminal } in
      let next : number ≡ its.runs partner + 1 = next_follows closed content rows its partner number (next_found closed content old db (Some there) holds partner number there one holds.beside is) in
      none_in partner number rows its.keeps.once (ap (text_in rows partner) next ∙ its.keeps.free partner);
}

-- ---- a text that is new

pub free_after : {closed : ClosedContent} {d : Delivery} {there : Beside} {s : State} {content : SetupContent} {es : List Event} {now : SetupContent} → IsNew closed d there s → (holds : Holds content es now s.committed (Some there)) → text_in holds.rows d.partner d.number ≡ None
free_after {closed} {d} {there} {s} {content} {es} {now} new holds = no_text d.partner d.number holds.rows (new.free.events content es holds.rows holds.has holds.after holds.beside)

pub free_over : {closed : ClosedContent} {d : Delivery} {there : Beside} {s : State} {content : SetupContent} (rows : Rows) {terminal : TerminalState} → IsNew closed d there s → HoldsOffice closed content rows terminal s.committed (Some there) → text_in rows d.partner d.number ≡ None
free_over {closed} {d} {there} {s} {content} rows {terminal} new holds = no_text d.partner d.number rows (new.free.office content rows terminal holds)
