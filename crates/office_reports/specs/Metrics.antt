-- What watches over the office is told: whether it can be asked, and how much there is of what (our own), in the format
-- that Prometheus reads (text, version 0.0.4).
use Rattle.std.specs.{Prelude.{ℕ, Bool, true, false, List, [], ◌∷◌, ◌++◌, length, count_by, sum_by, codes, decimal, is_none}, List.flat_map}
use Rattle.terminal_core.specs.{Rows.VisitContent, State.{TerminalState, last_number}}
use Rattle.office_reports.specs.{Names.line, Partners.{PartnerContent, waiting_count}, declared.metrics.Gauge.Gauge}

-- ---- whether it can be asked

abbrev pub ready_text : List ℕ
ready_text = codes "{\"answer\":\"ready\"}"

-- ---- what is counted

-- the container of the visit is in the yard
abbrev pub is_here : VisitContent → Bool
is_here visit = is_none visit.departure

abbrev has_some : List ℕ → Bool
has_some [] = false
has_some (first ∷ others) = true

-- some of its interchanges wait
abbrev pub is_waited_for : PartnerContent → Bool
is_waited_for partner = has_some partner.waiting

-- a value, under its name, and what it is
pub record GaugeContent : Type 0 where
  pub name : List ℕ
  pub help : List ℕ
  pub value : ℕ

abbrev pub gauge : List ℕ → List ℕ → ℕ → GaugeContent
gauge name help value = record { name = name; help = help; value = value }

-- Accounts, containers, visits, how many there ever were and their limit, interchanges that wait, and for how many partners.
-- Visits are numbered from 1 on, and the limit is one of their numbers: so it is reached by those that were put away too.
abbrev pub gauges : TerminalState → (visit_limit : ℕ) → List PartnerContent → List GaugeContent
gauges state visit_limit partners =
    gauge (codes "office_accounts") (codes "Partners that have an account.") (length partners)
    ∷ gauge (codes "office_containers") (codes "Containers in the yard.") (count_by is_here state.visits)
    ∷ gauge (codes "office_visits") (codes "Visits recorded, open and closed.") (length state.visits)
    ∷ gauge (codes "office_visits_ever") (codes "Visits recorded, put away ones too.") (last_number state.visits)
    ∷ gauge (codes "office_visits_limit") (codes "Visits that may be recorded.") visit_limit
    ∷ gauge (codes "office_interchanges_waiting") (codes "Interchanges that wait for a number that is missing.")
    (sum_by waiting_count partners)
    ∷ gauge (codes "office_partners_waiting") (codes "Partners of whom an interchange waits.")
    (count_by is_waited_for partners)
    ∷ []

-- ---- how it is reported

-- the lines before a value: what it is, and that it may rise and fall
abbrev pub gauge_head : (name help : List ℕ) → List ℕ
gauge_head name help =
    line (codes "# HELP" ∷ name ∷ help ∷ []) ++ line (codes "# TYPE" ∷ name ∷ codes "gauge" ∷ [])

abbrev pub gauge_text : GaugeContent → List ℕ
gauge_text of = gauge_head of.name of.help ++ line (of.name ∷ decimal of.value ∷ [])

-- the versions are labels of a value that is always 1
abbrev pub versions_text : (program store : List ℕ) → List ℕ
versions_text program store =
    gauge_head (codes "office_info") (codes "Versions of the program and of its store.")
    ++ codes "office_info{version=\"" ++ program ++ codes "\",store_version=\"" ++ store ++ codes "\"} 1\n"

abbrev pub metrics_text : (program store : List ℕ) → TerminalState → (visit_limit : ℕ) → List PartnerContent → List ℕ
metrics_text program store state visit_limit partners =
    flat_map gauge_text (gauges state visit_limit partners) ++ versions_text program store

-- ---- gauges as the code has them

abbrev pub gauge_content : Gauge → GaugeContent
gauge_content of = gauge of.name.now of.help.now of.value
