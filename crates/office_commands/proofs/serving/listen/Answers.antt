use Rattle.std.{specs.{Io.KnownBytes.Appends, Prelude.string_bytes}, proofs.Common.{◌≡◌, inl, inr, refl, subst, arith, rules}}
use Rattle.office_replies.specs.Fronts.{AppendsFront}
use Rattle.office_commands.{specs.Serving.{listening_line, served_line}, proofs.ServingLemmas.tells_none}
use Rattle.office_commands.proofs.serving.listen.Goals as goal

-- printing failed
pub returns-clause-deaf : goal.returns-clause-deaf
returns-clause-deaf g c = λ none. elim c.print.ensures [
  | inl printed ↦ absurd (omega (arith, c.if-print-eq-DONE.false, printed.0))
  | inr failed ↦ (let is : c.as_str.result.now ≡ listening_line c.args.port = search rules in
      inl (failed.2, subst (AppendsFront _ _) is failed.1, tells_none g.E.Write.contents c.args.errors.now c.args.errors.now refl))
]

-- the line was printed
pub returns-then-print-eq-DONE-clause-listens : goal.returns-then-print-eq-DONE-clause-listens
returns-then-print-eq-DONE-clause-listens g c = elim c.print.ensures [
  | inl printed ↦ (let is : c.as_str.result.now ≡ listening_line c.args.port = search rules in
      let told : string_bytes c.in-Ok-Ok.served ≡ served_line c.args.count = search rules in
      (told, subst (Appends _ _) is printed.1, printed.2, refl))
  | inr failed ↦ absurd (omega (arith, c.if-print-eq-DONE.true, failed.0))
]
