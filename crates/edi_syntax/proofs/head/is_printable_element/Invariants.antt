use Rattle.std.{specs.List.list_all, proofs.Common.◌≡◌}
use Rattle.edi_syntax.specs.{Characters.is_printable, Segment.{content, components_left}, Header.is_printable_element}
use Rattle.edi_syntax.proofs.head.is_printable_element.Given as goal

abbrev pub invariant-loop-component : goal.invariant-loop-component
invariant-loop-component l = is_printable_element (content l.segment) l.element ≡ list_all (list_all is_printable) (components_left l.component-iterator)
