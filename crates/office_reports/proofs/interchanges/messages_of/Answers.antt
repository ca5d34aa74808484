use Rattle.std.proofs.{Common.{map, ◌∙◌}, lemmas.Result.IfOk-weaker}
use Rattle.edi_syntax.specs.Envelopes.{envelope_segments}
use Rattle.serde_json.specs.View.{view}
use Rattle.office_reports.proofs.InterchangeLemmas.{rows_known}
use Rattle.office_reports.proofs.interchanges.messages_of.Goals as goal

pub returns-in-Ok : goal.returns-in-Ok
returns-in-Ok c =
    IfOk-weaker c.rows_in.result _ _
    (λ rows are. are ∙ rows_known c.args.codes.now c.args.text.now (view c.args.reply.now) (envelope_segments c.in-Ok.envelope)
    (map view c.items_in.result.now) c.in-Ok.ensures.ok.0 c.in-Ok.ensures.ok.1 c.items_in.ensures)
    c.rows_in.ensures
