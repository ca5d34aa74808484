use Rattle.std.{specs.Prelude.OnOk, proofs.{Common.{Result, Ok, Err}, lemmas.Result.IfErr-weaker}}
use Rattle.office_reports.specs.Looking.{texts_after}
use Rattle.office_tables.proofs.WritesLemmas.{of_store_or}
use Rattle.office_desk.proofs.LookLemmas.{looks_noted}
use Rattle.office_desk.proofs.desk.Desk.answer_texts.Goals as goal

any : {T E : Type 0} (result : Result T E) → OnOk result (Unit {0})
any (Ok found) = tt
any (Err fault) = tt

pub returns : goal.returns
returns g c =
    let told = c.find_texts-found.ensures in
    let met = c.find_texts-found.result in
    record {
      looks = looks_noted g.S.Store (λ lines. lines.items) c.args.self.now c.find_texts-found.new.self c.self-1.given.0 c.self-1.given.1.0 (texts_after c.args.from) met c.noted.result _ c.noted.ensures told.told
          (λ sound. IfErr-weaker met _ _ (λ fault why rows terminal holds. of_store_or _ fault (why rows terminal holds)) (told.fault sound)) told.looks (λ clean. any met) told.last_fault;
    }
