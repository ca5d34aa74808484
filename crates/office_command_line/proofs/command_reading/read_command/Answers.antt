use Rattle.std.proofs.{Common.{◌≡◌, ◌∙◌, ◌⊎◌, List, [], Option, IfOk, IfErr, Some, true, false, if◌then◌else◌, inl, inr, ap, map, sym, subst}, lemmas.Result.{IfErr-weaker, IfOk-weaker}}
use Rattle.clap.specs.{Simple.is_simple, Words.{App, Row, Text, subcommand_of, subcommand_rows_of, kind_of, fault_of, IsAmong, is_simple_and_free}, declared.error.Error.Error}
use Rattle.clap.specs.declared.error.kind.ErrorKind.TheVariants.{OutOfMemory}
use Rattle.office_command_line.specs.Commands.{office_app, init_app, deliver_app, serve_app, report_app, texts_app, account_app, migrate_app, close_app, explain_app, demo_app}
use Rattle.office_command_line.specs.Requests.{request_content, request_met, request_of_words, RefusesMet, RefusesWords, WordsAsk, fault_told, is_of_memory}
use Rattle.office_command_line.specs.declared.command_reading.CommandFault.{CommandFault}
use Rattle.office_command_line.specs.declared.command_reading.CommandFault.TheVariants.{Words, Values, Memory}
use Rattle.office_command_line.proofs.command_reading.read_command.Goals as goal

refuses : (words : List Text) → fault_of office_app words ≡ [] → (fault : CommandFault) → RefusesMet (subcommand_of office_app words) fault →
    RefusesWords words fault
refuses words taken (Words error) none = absurd none
refuses words taken (Values line) none = (taken, none.0, none.1)
refuses words taken Memory none = tt

pub returns-in-Ok-try_get_matches_from-clause-ok : goal.returns-in-Ok-try_get_matches_from-clause-ok
unfolding office_app init_app deliver_app serve_app report_app texts_app account_app migrate_app close_app explain_app demo_app
returns-in-Ok-try_get_matches_from-clause-ok c =
    let words : List Text = map (λ w. w.now) c.args.words.now in
    let is_office = c.in-Ok.ensures in
    let taken : fault_of office_app words ≡ [] =
    ap (λ (a : App). fault_of a words) (sym is_office) ∙ c.in-Ok-try_get_matches_from.ensures.kinds (ap is_simple_and_free is_office) in
    let found : subcommand_rows_of c.in-Ok-try_get_matches_from.matches ≡ subcommand_of office_app words =
    (c.in-Ok-try_get_matches_from.ensures.matches (ap is_simple is_office)).1 ∙ ap (λ (a : App). subcommand_of a words) is_office in
    let P : Option (Text × List Row) → Type 0 = λ o. IfOk c.request_in.result (λ request. request_met o ≡ Some (request_content request)) in
    IfOk-weaker c.request_in.result (λ request. request_of_words words ≡ Some (request_content request)) (λ request. WordsAsk words (request_content request))
    (λ request asks. (taken, asks)) (subst P found c.request_in.ensures.ok)

pub returns-in-Ok-try_get_matches_from-clause-err : goal.returns-in-Ok-try_get_matches_from-clause-err
unfolding office_app init_app deliver_app serve_app report_app texts_app account_app migrate_app close_app explain_app demo_app
returns-in-Ok-try_get_matches_from-clause-err c =
    let words : List Text = map (λ w. w.now) c.args.words.now in
    let is_office = c.in-Ok.ensures in
    let taken : fault_of office_app words ≡ [] =
    ap (λ (a : App). fault_of a words) (sym is_office) ∙ c.in-Ok-try_get_matches_from.ensures.kinds (ap is_simple_and_free is_office) in
    let found : subcommand_rows_of c.in-Ok-try_get_matches_from.matches ≡ subcommand_of office_app words =
    (c.in-Ok-try_get_matches_from.ensures.matches (ap is_simple is_office)).1 ∙ ap (λ (a : App). subcommand_of a words) is_office in
    let P : Option (Text × List Row) → Type 0 = λ o. IfErr c.request_in.result (RefusesMet o) in
    IfErr-weaker c.request_in.result (RefusesMet (subcommand_of office_app words)) (RefusesWords words) (refuses words taken)
    (subst P found c.request_in.ensures.err)

told : (words : List Text) (error : Error) → (kind_of error ≡ OutOfMemory) ⊎ IsAmong (kind_of error) (fault_of office_app words) →
    RefusesWords words (fault_told error)
told words error (inl memory) =
    subst (λ kind. RefusesWords words (if is_of_memory kind then Memory else Words error)) (sym memory) tt
told words error (inr among) =
    elim (is_of_memory (kind_of error)) as (λ is. RefusesWords words (if is then Memory else Words error)) [ true ↦ tt | false ↦ among ]

pub returns-in-Err : goal.returns-in-Err
unfolding office_app init_app deliver_app serve_app report_app texts_app account_app migrate_app close_app explain_app demo_app
returns-in-Err c =
    let words : List Text = map (λ w. w.now) c.args.words.now in
    let is_office = c.in-Ok.ensures in
    let found : (kind_of c.in-Err.error ≡ OutOfMemory) ⊎ IsAmong (kind_of c.in-Err.error) (fault_of office_app words) =
    elim (c.in-Err.ensures.kinds (ap is_simple_and_free is_office)) [
      | inl memory ↦ inl memory
      | inr among ↦ inr (subst (λ (a : App). IsAmong (kind_of c.in-Err.error) (fault_of a words)) is_office among)
    ] in
    record {
      ok = tt;
      err = subst (RefusesWords words) (sym c.fault_in.ensures) (told words c.in-Err.error found);
    }
