use Rattle.std.proofs.Common.{ℕ, List, None, inl, subst}
use Rattle.office_http.specs.{Ports.Sends, Responses.response_bytes, declared.head.ContentType.TheVariants.Text}
use Rattle.office_http.proofs.serve.answer_explain.Goals as goal

-- what was explained is written
pub returns-in-Ok-clause-does : goal.returns-in-Ok-clause-does
returns-in-Ok-clause-does g c =
    let told = c.in-Ok.ensures in
    inl (
      told.0,
      c.in-Ok.explanation,
      told.1,
      told.2,
      subst (λ (t : List ℕ). Sends c.write_text.result (g.W.Write.contents c.args.writer.now.inner) (g.W.Write.contents c.write_text.new.port.inner) (response_bytes 200 Text None t))
          c.as_str.ensures.value c.write_text.ensures.sends,
    )
