use Rattle.std.proofs.lemmas.Option.{IfSome_then}
use Rattle.office_http.proofs.requests.read_explained.Goals as goal

pub returns-clause-posts : goal.returns-clause-posts
returns-clause-posts g c =
    IfSome_then (g.R.Read.remaining c.args.reader.now.inner) c.in_ok-posted.ensures.posts (λ left posts. c.explained.ensures _ _ posts)
