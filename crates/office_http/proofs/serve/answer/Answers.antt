use Rattle.office_http.proofs.Serving.{explain_does}
use Rattle.office_http.proofs.serve.answer.Goals as goal

pub returns-in-Explain-clause-does : goal.returns-in-Explain-clause-does
returns-in-Explain-clause-does g c =
    explain_does g.D.Deliver.leads g.D.AddAccount.enrols g.D.Report.looks c.args.ahead c.args.request c.in-Explain.text
    c.as_slice-in-Explain.result.now c.args.desk.now _ c.in-Explain.is c.as_slice-in-Explain.ensures.value c.answer_explain.ensures.does
