use Rattle.std.proofs.Common.{◌≡◌, [], sym, ap, subst, ◌∙◌}
use Rattle.sqlite.specs.{Held.state, Steps.over_memory}
use Rattle.office_rows.{specs.{Opening.opening_rows, Stored.HasRows, Tables.no_schema}, proofs.Creating.if_ok}
use Rattle.office_admission.specs.Setups.{SetupContent, setup_content}
use Rattle.office_history.proofs.Lawful.{opening_after}
use Rattle.office_desk.specs.Desks.{StandsFor}
use Rattle.office_commands.proofs.Leaving.{memory_sound, memory_clean}
use Rattle.office_commands.proofs.opening.open_desk.Goals as goal

-- The tables are made in an empty store, so their rows are those after no delivery.
pub returns : goal.returns
returns c = record {
  opens = if_ok c.open.result (λ desk opens. λ given.
      let content : SetupContent = setup_content c.args.setup.now in
      let made = c.in_ok-create.ensures.ok (memory_clean c.create.new.conn) in
      let empty = c.in_ok-conn.ensures.empty in
      let nothing : (state over_memory c.in_ok-conn.conn).committed.schema ≡ no_schema = sym (ap (λ db. db.schema) empty.0.clean) ∙ empty.2 in
      let has : HasRows (opening_rows content) (state over_memory c.create.new.conn).committed = made.rows nothing in
      let there = opens (memory_sound desk) content [] (opening_rows content) given has (opening_after content) in
      record {
        says = there.says;
        stands = subst (λ (k : SetupContent). StandsFor over_memory k [] desk) there.stands.now_is there.stands;
      })
      c.open.ensures.opens;
}
