use Rattle.std.{specs.Prelude.IfErr, proofs.Common.{◌≡◌, not, ap, subst, ◌∙◌}}
use Rattle.sqlite.specs.{Effect.Database, Held.state}
use Rattle.office_admission.specs.Setups.{setup_content}
use Rattle.office_desk.specs.Offices.{FailsToOpen}
use Rattle.office_loading.specs.{Closed.closed_content, Tables.LoadsOwn}
use Rattle.office_rows.specs.{Rows.Rows, Shown.AreNexts, Stored.HasRows, Tables.office_schema}
use Rattle.office_archives.proofs.Looking.{loaded_committed, ok_committed}
use Rattle.office_archives.proofs.looked.Looked.load.Goals as goal

-- No change was under way.
pub returns : goal.returns
returns g c =
    let old = state g.S.Store c.args.self.now.conn in
    let new = state g.S.Store c.load_beside.new.conn in
    let closed = closed_content c.args.closed.now in
    let result = c.load_beside.result in
    let does = c.load_beside.ensures in
    let idle = c.is_autocommit-is_idle.ensures.value ∙ ap not c.args.self.now.idle in
    record {
      loaded = λ clean. loaded_committed old new (c.is_autocommit-is_idle.ensures.settled idle) (λ db. db.schema ≡ office_schema) (λ db p. LoadsOwn closed db (setup_content p.0) p.1.terminal) result (does.reads.unchanged clean) (does.loaded clean);
      nexts = λ clean. ok_committed old new (c.is_autocommit-is_idle.ensures.settled idle) (λ db p. (rows : Rows) → HasRows rows db → AreNexts rows p.1.nexts.items) result (does.reads.unchanged clean) (does.nexts clean);
      given = does.given;
      refused = λ clean is_open schema.
          let settled = c.is_autocommit-is_idle.ensures.settled idle ((does.reads.keeps clean).was_open is_open) in
          subst (λ db. IfErr result (FailsToOpen closed db)) settled (does.refused clean (ap (λ (db : Database). db.schema) settled ∙ schema));
      reads = does.reads;
    }
