use Rattle.std.proofs.Common.{◌≡◌, List, Option, option_map, refl, sym, subst}
use Rattle.edi_messages.specs.{Owned.call_content, Purposes.CallContent, declared.call.Call.Call}
use Rattle.terminal_core.specs.{State.TerminalState, declared.lines.Side.Side}
use Rattle.office_reports.specs.{Work.work_by, declared.query.About.About, Lists.{IsOfLines, list_by}}
use Rattle.office_report_data.specs.Told.{ReportContent}
use Rattle.office_archives.specs.{ListsAway.TellsList, Telling.IsOfList}
use Rattle.office_reports.specs.declared.query.About.TheVariants as about
use Rattle.office_report_data.specs.Told as value
use Rattle.office_archives.proofs.lists_away.report_by_lines.Goals as goal

abbrev TellsWork : TerminalState → CallContent → Side → Option ReportContent → Type 0
TellsWork state call side what = IsOfLines state call side (λ lines. option_map value.work (work_by state call side lines)) what

abbrev TellsLines : TerminalState → CallContent → Side → Option ReportContent → Type 0
TellsLines state call side what = IsOfLines state call side (λ lines. option_map value.list (list_by call side lines)) what

work_told : (state : TerminalState) (asked : About) (call : CallContent) (side : Side) (what : Option ReportContent) → IsOfList asked call side → (work : Call) (on : Side) → asked ≡ about.Work work on → TellsWork state call side what → TellsList state asked what
work_told state (about.Work asked on) call side what is work other same told = subst (λ (q : CallContent × Side). TellsWork state q.0 q.1 what) (λ i. (sym is.0 i, sym is.1 i)) told
work_told state (about.List asked on) call side what is work other same told = absurd cc
work_told state asked call side what is work other same told = absurd is

list_told : (state : TerminalState) (asked : About) (call : CallContent) (side : Side) (what : Option ReportContent) → IsOfList asked call side → ((work : Call) (on : Side) → asked ≡ about.Work work on → ⊥) → TellsLines state call side what → TellsList state asked what
list_told state (about.List asked on) call side what is never told = subst (λ (q : CallContent × Side). TellsLines state q.0 q.1 what) (λ i. (sym is.0 i, sym is.1 i)) told
list_told state (about.Work asked on) call side what is never told = absurd (never asked on refl)
list_told state asked call side what is never told = absurd is

pub returns-in-Work : goal.returns-in-Work
returns-in-Work c =
    let told = c.in_ok-tell_work-in-Work.ensures in
    let tells = work_told c.in_ok-terminal.terminal c.args.query.now.about (call_content c.args.call.now) c.args.side told.0 c.requires c.in-Work.call c.in-Work.side c.in-Work.is told.1 in
    (told.0, record { state = c.in_ok-terminal.terminal; once = c.in_ok-terminal.ensures.once; lines_are = c.in_ok-terminal.ensures.lines; tells = tells }, told.2)

pub returns : goal.returns
returns c =
    let told = c.in_ok-tell_list-in_default.ensures in
    let tells = list_told c.in_ok-terminal.terminal c.args.query.now.about (call_content c.args.call.now) c.args.side told.0 c.requires c.in_default.not-Work told.1 in
    (told.0, record { state = c.in_ok-terminal.terminal; once = c.in_ok-terminal.ensures.once; lines_are = c.in_ok-terminal.ensures.lines; tells = tells }, told.2)
