-- What a store's own rows count, of which visits were put away.
use Rattle.std.specs.{Prelude.{◌≡◌, ℕ, ◌+◌, Bool, List, ◌++◌, map, filter, codes, length, Option, Some, if◌then◌else◌}, List.flat_map, Str.bytes_eq}
use Rattle.terminal_core.specs.State.{TerminalState}
use Rattle.office_rows.specs.{Opening.tables_version, Rows.Rows}
use Rattle.office_admission.specs.Setups.{SetupContent}
use Rattle.office_reports.specs.{declared.query.About.About, Program.program_version, Metrics.{GaugeContent, gauges, gauge_text, versions_text}}
use Rattle.office_reports.specs.Partners.{PartnerContent}
use Rattle.office_parts.specs.Closing.{is_put_away}
use Rattle.office_desk.specs.Reports.{AreLookedUp}
use Rattle.office_reports.specs.declared.query.About.TheVariants as about

-- it is asked for the partners, or one of them, or whether the office can be asked
abbrev pub IsOfPartners : About → Type 0
IsOfPartners about.Partners = Unit {0}
IsOfPartners (about.Partner code) = Unit {0}
IsOfPartners about.Health = Unit {0}
IsOfPartners other = ⊥

-- the gauge of visits with that value, any other as it is
abbrev pub with_visits : (count : ℕ) → GaugeContent → GaugeContent
with_visits count gauge =
    if bytes_eq gauge.name (codes "office_visits") then record gauge { value = count } else gauge

-- the metrics of these rows, but with that number of visits
abbrev pub TellsMetricsWith : (count : ℕ) → SetupContent → TerminalState → Rows → Option (List ℕ) → Type 0
TellsMetricsWith count now state rows found =
    (partners : List PartnerContent) × AreLookedUp rows 1 now.partners partners
    × (found
    ≡ Some (flat_map gauge_text (map (with_visits count) (gauges state now.visit_limit partners))
    ++ versions_text program_version tables_version))

-- They are those of the whole, but of visits only those are counted that stay: all without those that were put away.
pub record TellsOwnMetrics (now : SetupContent) (stays : ℕ → Bool) (state : TerminalState) (rows : Rows)
    (found : Option (List ℕ)) : Type 0 where
  pub count : ℕ
  pub all : count + length (filter (is_put_away stays) state.visits) ≡ length state.visits
  pub tells : TellsMetricsWith count now state rows found
