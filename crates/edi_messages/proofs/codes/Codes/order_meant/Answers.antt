use Rattle.std.proofs.Common.{◌∙◌}
use Rattle.edi_syntax.specs.Segment.{value}
use Rattle.edi_messages.specs.{Codes.code_text, declared.order.OrderKind.TheVariants.{GateIn, GateOut, ListDischarge, ListLoad, Discharge, Load}}
use Rattle.edi_messages.proofs.SurveyLemmas.{two_meanings}
use Rattle.edi_messages.proofs.codes.Codes.order_meant.Goals as goal

pub returns-in-Gate-Codeco : goal.returns-in-Gate-Codeco
returns-in-Gate-Codeco c =
    let table = c.args.self.now.table in
    rw (c.in-Gate-Codeco.is-0, c.in-Gate-Codeco.is-1)
    (c.first_meaning.ensures ∙ two_meanings (value c.args.name) (code_text table.gate_in, GateIn) (code_text table.gate_out, GateOut))

pub returns-in-Line-Coprar : goal.returns-in-Line-Coprar
returns-in-Line-Coprar c =
    let table = c.args.self.now.table in
    rw (c.in-Line-Coprar.is-0, c.in-Line-Coprar.is-1)
    (c.first_meaning-in-Line-Coprar.ensures ∙ two_meanings (value c.args.name) (code_text table.discharge_list, ListDischarge) (code_text table.load_list, ListLoad))

pub returns-in-Quay-Coarri : goal.returns-in-Quay-Coarri
returns-in-Quay-Coarri c =
    let table = c.args.self.now.table in
    rw (c.in-Quay-Coarri.is-0, c.in-Quay-Coarri.is-1)
    (c.first_meaning-in-Quay-Coarri.ensures ∙ two_meanings (value c.args.name) (code_text table.discharge_report, Discharge) (code_text table.load_report, Load))
