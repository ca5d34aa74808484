-- What a report tells.
use Rattle.std.specs.{Prelude.{IfErr, OnOk}, Result.result_map_both}
use Rattle.std.proofs.Common.{◌≡◌, ℕ, List, false, Option, Some, Result, Ok, Err, IfOk, option_map, refl, sym, ap, subst, ◌∙◌}
use Rattle.sqlite.specs.{Held.state, State.HasCleanDisk}
use Rattle.sqlite_trees.specs.declared.store.Store.{Ghosts}
use Rattle.terminal_core.specs.State.{TerminalState}
use Rattle.office_rows.specs.Rows.{Rows}
use Rattle.office_admission.specs.{Given.IsGiven, Setups.setup_content}
use Rattle.office_reports.specs.{Looking.Look, declared.query.NotNow.NotNow}
use Rattle.office_tables.specs.{declared.table_fault.TableFault.TableFault, Faults.IsOfStoreOr}
use Rattle.office_desk.specs.{Calls.{Looks, OnlyLooks}, Desks.IsSound, Looking.{DeskShows, IsOpenAt, ShowsUnfitReply}, Noting.Notes, Offices.DeskHolds}
use Rattle.office_desk.specs.declared.desk.Desk.{Desk}

-- a desk looks at nothing
pub looks_nowhere : {S : Type 0} (g : Ghosts S) (desk : Desk S g) → OnlyLooks g desk desk
looks_nowhere g desk = record {
  same = λ sound content es stands. stands;
  holds = λ sound rows terminal holds. holds;
  committed = λ sound. refl;
  setup = refl;
  closed = refl;
  crash = λ sound clean schema db left. left;
  stays = λ sound. sound;
  clean = λ clean. clean;
}

-- what was handed on is what the call answered
pub noted_told : {T : Type 0} (met : Result T TableFault) (old : Option TableFault) (given : T) (new : Option TableFault) → Notes met old (Ok given) new → (met ≡ Ok given) × (new ≡ old)
noted_told (Ok told) old given new noted = (ap Ok (sym noted.0), noted.1)
noted_told (Err fault) old given new noted = absurd noted

-- what is kept is the fault that it met
pub noted_fault : {T : Type 0} (met : Result T TableFault) (old : Option TableFault) (refusal : NotNow) (new : Option TableFault) → Notes met old (Err refusal) new → (fault : TableFault) × (met ≡ Err fault) × (new ≡ Some fault)
noted_fault (Ok told) old refusal new noted = absurd noted
noted_fault (Err fault) old refusal new noted = (fault, refl, noted)

-- what was found is handed on, or the fault is kept
pub looks_noted : {S T : Type 0} (g : Ghosts S) (bytes : T → List ℕ) (old mid : Desk S g) (idle : mid.conn.in_transaction ≡ false) (is_given : IsGiven (setup_content mid.setup)) (look : Look) (met : Result (Option T) TableFault) (given : Result (Option T) NotNow) (last : Option TableFault) → Notes met mid.last_fault given last
    → (IsSound g mid → IfOk met (λ found. DeskShows g old look (option_map bytes found)))
    → (IsSound g mid → IfErr met (λ fault. (rows : Rows) (terminal : TerminalState) → DeskHolds g old rows terminal → IsOfStoreOr (ShowsUnfitReply (setup_content old.setup) rows look) fault))
    → OnlyLooks g old mid → (HasCleanDisk (state g mid.conn) → OnOk met (IsOpenAt look (state g mid.conn))) → mid.last_fault ≡ old.last_fault → Looks g old look (result_map_both (option_map bytes) (λ refusal. refusal) given) (record mid { last_fault = last; idle = idle; given = is_given })
looks_noted g bytes old mid idle is_given look (Ok found) (Ok given) last noted told why looks opens same = record {
  told = λ sound. subst (λ f. DeskShows g old look (option_map bytes f)) (sym noted.0) (told sound);
  looks = record { same = looks.same; holds = looks.holds; committed = looks.committed; setup = looks.setup; closed = looks.closed; crash = looks.crash; stays = looks.stays; clean = looks.clean };
  noted = noted.1 ∙ same;
  cause = λ sound rows terminal holds. tt;
  is_open = opens;
}
looks_noted g bytes old mid idle is_given look (Err fault) (Err refusal) last noted told why looks opens same = record {
  told = λ sound. tt;
  looks = record { same = looks.same; holds = looks.holds; committed = looks.committed; setup = looks.setup; closed = looks.closed; crash = looks.crash; stays = looks.stays; clean = looks.clean };
  noted = (fault, noted);
  cause = λ sound rows terminal holds. (fault, noted, why sound rows terminal holds);
  is_open = λ clean. tt;
}
looks_noted g bytes old mid idle is_given look (Ok found) (Err refusal) last noted told why looks opens same = absurd noted
looks_noted g bytes old mid idle is_given look (Err fault) (Ok given) last noted told why looks opens same = absurd noted
