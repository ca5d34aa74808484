use Rattle.std.proofs.{Common.{◌≡◌, ℕ, List, [], ◌∷◌, ◌++◌, length, map, codes, count_by, flat_map, sym, ap, ◌∙◌}, lemmas.List.length-map}
use Rattle.terminal_core.specs.{Rows.visit_content, State.last_number}
use Rattle.office_reports.specs.{Metrics.{GaugeContent, gauge, gauge_text, is_here, versions_text}, Partners.partner_content}
use Rattle.office_reports.proofs.metrics.metrics_report.Goals as goal

abbrev counted : (accounts containers visits ever limit waiting partners : ℕ) → List GaugeContent
counted accounts containers visits ever limit waiting partners =
    gauge (codes "office_accounts") (codes "Partners that have an account.") accounts
    ∷ gauge (codes "office_containers") (codes "Containers in the yard.") containers
    ∷ gauge (codes "office_visits") (codes "Visits recorded, open and closed.") visits
    ∷ gauge (codes "office_visits_ever") (codes "Visits recorded, put away ones too.") ever
    ∷ gauge (codes "office_visits_limit") (codes "Visits that may be recorded.") limit
    ∷ gauge (codes "office_interchanges_waiting") (codes "Interchanges that wait for a number that is missing.") waiting
    ∷ gauge (codes "office_partners_waiting") (codes "Partners of whom an interchange waits.") partners
    ∷ []

pub returns : goal.returns
returns c =
    let state = c.args.terminal.now in
    let partners = c.args.partners.now in
    let rows = c.visits-visits.result.now in
    let versions = versions_text c.args.versions.program.now c.args.versions.store.now in
    let told : map visit_content rows ≡ state.visits = c.visits-visits.ensures.told in
    let accounts : length partners ≡ length (map partner_content partners) = sym (length-map partners partner_content) in
    let here = c.here_count.ensures ∙ ap (count_by is_here) told in
    let visits : length rows ≡ length state.visits = sym (length-map rows visit_content) ∙ ap length told in
    let waiting = c.waiting_count.ensures in
    let waited_for = c.waited_for_count.ensures in
    let ever = c.from.ensures ∙ c.newest_number.ensures ∙ ap last_number told in
    let limit = c.from-2.ensures in
    let first = flat_map gauge_text (counted (length partners) c.here_count.result (length rows) c.from.result c.from-2.result c.waiting_count.result c.waited_for_count.result) in
    c.in_ok-push_versions.ensures
    ∙ ap (λ (t : List ℕ). t ++ versions) (c.in_ok-push_gauges.ensures ∙ ap (λ (t : List ℕ). t ++ first) c.new-text.ensures.bytes)
    ∙ (λ i. flat_map gauge_text (counted (accounts i) (here i) (visits i) (ever i) (limit i) (waiting i) (waited_for i)) ++ versions)
