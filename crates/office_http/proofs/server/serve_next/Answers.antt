use Rattle.office_http.proofs.Serving.{one_noted}
use Rattle.office_http.proofs.server.serve_next.Goals as goal

pub returns-in-Some-serve_line-clause-noted : goal.returns-in-Some-serve_line-clause-noted
returns-in-Some-serve_line-clause-noted g c = one_noted g.H.Watch.notes c.args.watch.now _ c.serve_line.ensures.noted.0 c.serve_line.ensures.noted.1

pub returns-in_default-serve_line-clause-noted : goal.returns-in_default-serve_line-clause-noted
returns-in_default-serve_line-clause-noted g c = one_noted g.H.Watch.notes c.args.watch.now _ c.serve_line.ensures.noted.0 c.serve_line.ensures.noted.1
