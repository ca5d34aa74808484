use Rattle.std.specs.Prelude.{map}
use Rattle.std.proofs.Common.{◌≡◌, ◌∷◌, ◌++◌, List, length, ap, subst, ◌∙◌, arith}
use Rattle.std.proofs.lemmas.List.{map-append}
use Rattle.box6346.specs.declared.box_number.BoxNumber.{BoxNumber}
use Rattle.edi_messages.specs.Owned.{call_content}
use Rattle.terminal_core.specs.{Drop.{list_drop, Drops, open_containers, without_lines_of}, Rows.{change_content, unlisted}, State.{TerminalState, Lines}}
use Rattle.terminal_core.proofs.terminal.Terminal.drop_open.Goals as goal

pub returns-clause-ok : goal.returns-clause-ok
returns-clause-ok c =
    let state : TerminalState = record { yard = c.self.inside.yard; limit = c.self.inside.limit; visits = c.self.inside.visits.visits; lines = c.self.inside.lists } in
    let call = call_content c.args.call.now in
    let containers : c.in_ok-containers.containers.items ≡ open_containers c.self.inside.lists call c.args.side = c.in_ok-containers.ensures in
    let P : TerminalState → Type 0 = λ s. Drops (list_drop s call c.args.side) (record state { lines = c.remove_all.new.self }) c.in-Ok.count (map change_content c.args.changes.now.items) (map change_content c.append.new.self.items) in
    let long = c.in_ok-containers.containers.ok.0 in
    let same : length c.in_ok-containers.containers.items ≡ length (open_containers c.self.inside.lists call c.args.side) = ap length containers in
    subst P c.self.view_is (record {
      state = ap (λ (lines : Lines). record state { lines = lines }) (c.remove_all.ensures ∙ ap (λ (l : List BoxNumber). without_lines_of call c.args.side l c.self.inside.lists) (c.deref-2.ensures.value ∙ containers));
      count_is = omega (arith, c.in-Ok.ensures.1, c.len.ensures, long, same);
      changes = ap (map change_content) c.in_ok-append.ensures.items ∙ map-append change_content c.args.changes.now.items c.in_ok-dropped.dropped.items
          ∙ ap (λ l. map change_content c.args.changes.now.items ++ l) (c.in_ok-dropped.ensures ∙ ap (map (unlisted call c.args.side)) (c.deref.ensures.value ∙ containers));
    })
