use Rattle.std.{specs.List.Sorted.IsPermutation, proofs.Common.{List, ap, ◌∙◌, subst}}
use Rattle.box6346.specs.declared.box_number.BoxNumber.{BoxNumber}
use Rattle.edi_messages.specs.Owned.{call_content}
use Rattle.terminal_core.{specs.Drop.open_rows_of, proofs.{Noted.once_noted, OpenRows.sorted_are}}
use Rattle.terminal_core.proofs.lists.Lists.open_containers.Goals as goal

pub returns : goal.returns
returns c =
    let call = call_content c.args.call.now in
    let P : List BoxNumber → Type 0 = λ cs. IsPermutation cs c.sort_unstable.new.self.items in
    let moved = subst P (c.in_ok-containers.ensures ∙ ap (open_rows_of call c.args.side) c.deref.ensures.value) c.sort_unstable.ensures.permutation in
    sorted_are call c.args.side c.self.inside.rows.items c.args.self.now c.sort_unstable.new.self.items (once_noted c.self.inside.rows.items c.self.inside.indexes c.self.invariant) c.self.view_is moved c.sort_unstable.ensures.sorted
