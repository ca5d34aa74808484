use Rattle.std.{specs.Option.option_map, proofs.Common.{◌≡◌, map, take}}
use Rattle.edi_messages.specs.Owned.{call_content}
use Rattle.office_closing.specs.Lists.{list_content, lines_of_list}
use Rattle.office_closing.proofs.register.Register.lines_of_list.Given as goal

abbrev pub invariant-loop-list : goal.invariant-loop-list
invariant-loop-list l =
    option_map (λ text. text.now) l.newest
    ≡ lines_of_list (map list_content (take l.list-index l.self.lists.items)) (call_content l.call) l.side
