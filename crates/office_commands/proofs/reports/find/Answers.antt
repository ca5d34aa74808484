use Rattle.std.{specs.Prelude.string_bytes, proofs.Common.{◌≡◌, inl, inr, None, Some, Result, Ok, Err, IfOk, option_map, refl, sym, ap, ◌∙◌}}
use Rattle.std.proofs.lemmas.Result.{IfErr-weaker, IfOk-weaker}
use Rattle.office_reports.specs.Keys.{query_content, query_of}
use Rattle.office_desk.proofs.LookLemmas.{looks_nowhere}
use Rattle.office_archives.proofs.Together.{looks_on}
use Rattle.office_commands.proofs.{RefusingLemmas.err_both, LookingLemmas.{looked_over, told_held}}
use Rattle.office_commands.proofs.reports.find.Goals as goal

-- what is supposed before the answer is known may be supposed after it
told_of : {T E : Type 0} (result : Result T E) (P Q N : Type 0) (F G : T → Type 0) → (P → Q → IfOk result F) → (N → P → IfOk result G) → IfOk result (λ found. (P → Q → F found) × (N → P → G found))
told_of (Ok found) P Q N F G told own = (told, own)
told_of (Err fault) P Q N F G told own = tt

pub returns-in-Some-clause-found : goal.returns-in-Some-clause-found
returns-in-Some-clause-found g c =
    let old = c.args.office.now in
    let are = g.A.Archives.are in
    let key_is : query_of c.args.kind c.args.view c.args.key.now ≡ Some (query_content c.in-Some.query) = sym c.in_ok-query.ensures ∙ ap (option_map query_content) c.in-Some.is in
    let told = c.find_report.ensures in
    IfOk-weaker c.find_report.result _ _
    (λ found both image opens. record {
      tells = λ sound whole. inr (c.in-Some.query, key_is, both.0 sound whole);
      alone = λ alone sound.
          told_held g.S.Store are image (old.desk, old.archives) c.args.kind c.args.view c.args.key.now (option_map string_bytes found) opens alone (told.looks.stays sound)
          (inr (c.in-Some.query, key_is, both.1 alone.none sound));
    })
    (told_of c.find_report.result _ _ _ _ _ told.told told.alone)

pub returns-in-None-clause-found : goal.returns-in-None-clause-found
returns-in-None-clause-found g c image opens =
    let none : query_of c.args.kind c.args.view c.args.key.now ≡ None = sym c.in_ok-query.ensures ∙ ap (option_map query_content) c.in-None.is in
    record {
      tells = λ sound whole. inl (none, refl);
      alone = λ alone sound. record { after = λ content es begins. inl (none, refl); office = λ db held. inl (none, refl) };
    }

pub returns-in-Some-clause-looks : goal.returns-in-Some-clause-looks
returns-in-Some-clause-looks g c image =
    let old = c.args.office.now in
    let new = c.find_report.new.self in
    looked_over g.S.Store g.A.Archives.are image (old.desk, old.archives) (new.desk, new.archives) c.find_report.ensures.looks c.find_report.ensures.alone_looks

-- Nothing was looked at.
pub returns-in-None-clause-looks : goal.returns-in-None-clause-looks
returns-in-None-clause-looks g c image =
    let office = c.args.office.now in
    looked_over g.S.Store g.A.Archives.are image (office.desk, office.archives) (office.desk, office.archives)
    (looks_on g.S.Store g.A.Archives.are office.desk office.desk office.archives office.archives (λ sound db left. g.met.S.Store.settled office.desk.conn.store db sound.1 left) (looks_nowhere g.S.Store office.desk) (λ list they. they))
    (λ none. looks_nowhere g.S.Store office.desk)

pub returns-in_err-query-clause-looks : goal.returns-in_err-query-clause-looks
returns-in_err-query-clause-looks g c image =
    let office = c.args.office.now in
    looked_over g.S.Store g.A.Archives.are image (office.desk, office.archives) (office.desk, office.archives)
    (looks_on g.S.Store g.A.Archives.are office.desk office.desk office.archives office.archives (λ sound db left. g.met.S.Store.settled office.desk.conn.store db sound.1 left) (looks_nowhere g.S.Store office.desk) (λ list they. they))
    (λ none. looks_nowhere g.S.Store office.desk)

-- ---- why it can't be reported

pub returns-in-Some-clause-fault : goal.returns-in-Some-clause-fault
returns-in-Some-clause-fault g c sound =
    let key_is : query_of c.args.kind c.args.view c.args.key.now ≡ Some (query_content c.in-Some.query) = sym c.in_ok-query.ensures ∙ ap (option_map query_content) c.in-Some.is in
    IfErr-weaker c.find_report.result _ _ (λ fault both. inr (c.in-Some.query, key_is, both.0, both.1))
    (err_both c.find_report.result _ _ _ (c.find_report.ensures.fault sound) (λ none. c.find_report.ensures.alone_fault none sound))
