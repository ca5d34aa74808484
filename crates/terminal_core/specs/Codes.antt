-- The state as a value of models.
use Rattle.std.specs.{Prelude.{ℕ, Bool, List, Option, refl}, Coded.{Coded, code_by, coded×, coded_list, coded_option, coded_bool, coded_ℕ}}
use Rattle.box6346.specs.{declared.box_number.BoxNumber.BoxNumber, declared.size_type.SizeType.SizeType}
use Rattle.yard_core.specs.YardMap.{YardMap, yard_code}
use Rattle.terminal_core.specs.{declared.visits.Arrival.Arrival, declared.visits.Departure.Departure, declared.lines.LineState.LineState, Rows.VisitContent}
use Rattle.terminal_core.specs.State.{LineContent, Lines, TerminalState}
use Rattle.std.specs.FinMap as finite_map
use Rattle.terminal_core.specs.contracts.visits.Arrival as arrivals
use Rattle.terminal_core.specs.contracts.visits.Departure as departures
use Rattle.terminal_core.specs.contracts.lines.LineState as line_states

abbrev pub VisitParts : Type 0
VisitParts = ℕ × (BoxNumber × (SizeType × (Bool × (List ℕ × (Arrival × (Option Departure × ℕ))))))

abbrev pub visit_parts_code : Coded VisitParts
visit_parts_code =
    coded× coded_ℕ (coded× (coded_list coded_ℕ)
    (coded× (coded_list coded_ℕ)
    (coded× coded_bool (coded× (coded_list coded_ℕ)
    (coded× arrivals.the_row.coded (coded× (coded_option departures.the_row.coded) coded_ℕ))))))

abbrev pub visit_code : Coded VisitContent
visit_code =
    code_by VisitParts visit_parts_code
    (λ v. (v.number, (v.container, (v.size_type, (v.is_laden, (v.booking, (v.arrival, (v.departure, v.kilos))))))))
    (λ p. record {
      number = p.0;
      container = p.1.0;
      size_type = p.1.1.0;
      is_laden = p.1.1.1.0;
      booking = p.1.1.1.1.0;
      arrival = p.1.1.1.1.1.0;
      departure = p.1.1.1.1.1.1.0;
      kilos = p.1.1.1.1.1.1.1;
    })
    (λ _. refl)

abbrev pub line_code : Coded LineContent
line_code =
    code_by (List ℕ × LineState) (coded× (coded_list coded_ℕ) line_states.the_row.coded) (λ l. (l.port, l.state))
    (λ p. record { port = p.0; state = p.1 }) (λ _. refl)

abbrev pub lines_code : Coded Lines
lines_code = finite_map.code (coded_list (coded_list coded_ℕ)) line_code

abbrev pub TerminalParts : Type 0
TerminalParts = YardMap × (ℕ × (List VisitContent × Lines))

abbrev pub terminal_code : Coded TerminalState
terminal_code =
    code_by TerminalParts (coded× yard_code (coded× coded_ℕ (coded× (coded_list visit_code) lines_code)))
    (λ t. (t.yard, (t.limit, (t.visits, t.lines))))
    (λ p. record { yard = p.0; limit = p.1.0; visits = p.1.1.0; lines = p.1.1.1 })
    (λ _. refl)
