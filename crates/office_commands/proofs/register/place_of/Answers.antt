use Rattle.std.proofs.{Common.{lit<, sym, subst}, lemmas.Str.Pattern.NoCharPasses-char}
use Rattle.office_commands.specs.Paths.{HasNoSlash}
use Rattle.office_commands.proofs.register.place_of.Goals as goal

pub returns-in-Some-clause-name : goal.returns-in-Some-clause-name
returns-in-Some-clause-name c =
    let split = c.in-Some.ensures.cases in
    subst HasNoSlash (sym split.4) (λ i below. NoCharPasses-char 47 _ i split.2.0 (lit< tt) below)

pub returns-in-None-clause-name : goal.returns-in-None-clause-name
returns-in-None-clause-name c i below = NoCharPasses-char 47 _ i c.in-None.ensures.cases (lit< tt) below
