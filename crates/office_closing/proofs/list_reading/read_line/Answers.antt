use Rattle.std.{specs.Prelude.Ok, proofs.Common.{◌≡◌, true, sym, ap, ◌∙◌, subst}}
use Rattle.box6346.specs.ContainerNumber.{number_of}
use Rattle.edi_messages.specs.Owned.{call_content}
use Rattle.terminal_core.specs.Forms.{IsFormedPort}
use Rattle.office_closing.{specs.Texts.IsLineOf, proofs.TextLemmas.{number_read, number_reads, cut_there, cut_parts, cut_text, line_read}}
use Rattle.office_closing.proofs.list_reading.read_line.Goals as goal

pub returns-in_default-clause-none : goal.returns-in_default-clause-none
returns-in_default-clause-none c line is =
    let cut = c.in_default.ensures.variant.1 (cut_there (call_content c.args.call.now) c.args.side c.args.line.now line is) in cc

pub returns-in_default-parse-clause-none : goal.returns-in_default-parse-clause-none
returns-in_default-parse-clause-none c line is =
    let text = cut_text c.args.line.now c.in-Some.number.now c.in-Some.port.now c.in-Some.ensures.front c.in-Some.ensures.back in
    let parts = cut_parts (call_content c.args.call.now) c.args.side c.args.line.now line is c.in-Some.number.now c.in-Some.port.now text c.in-Some.ensures.front_len in
    let read : c.parse.result ≡ Ok line.container =
    c.parse.ensures ∙ ap number_of (c.as_bytes.ensures.value ∙ parts.0) ∙ number_reads line.container is.1.container_formed in
    let refused = c.in_default-parse.is in
    cc

pub returns-then-not-is_formed_port-clause-none : goal.returns-then-not-is_formed_port-clause-none
returns-then-not-is_formed_port-clause-none c line is =
    let text = cut_text c.args.line.now c.in-Some.number.now c.in-Some.port.now c.in-Some.ensures.front c.in-Some.ensures.back in
    let parts = cut_parts (call_content c.args.call.now) c.args.side c.args.line.now line is c.in-Some.number.now c.in-Some.port.now text c.in-Some.ensures.front_len in
    let formed : c.is_formed_port.result ≡ true = c.is_formed_port.ensures.1 (subst (IsFormedPort c.args.side) (sym parts.1) is.1.port_formed) in
    let other = c.if-not-is_formed_port.true in
    cc

pub returns-clause-line : goal.returns-clause-line
returns-clause-line c =
    let text = cut_text c.args.line.now c.in-Some.number.now c.in-Some.port.now c.in-Some.ensures.front c.in-Some.ensures.back in
    let number = number_read c.in-Some.number.now c.in-Ok.container (sym (ap number_of c.as_bytes.ensures.value) ∙ sym c.parse.ensures ∙ c.in-Ok.is) in
    subst (IsLineOf (call_content c.args.call.now) c.args.side c.args.line.now) (sym c.in_ok-done_line.ensures)
    (line_read (call_content c.args.call.now) c.args.side c.args.line.now c.in-Some.number.now c.in-Some.port.now c.in-Ok.container text number
    (c.is_formed_port.ensures.0 c.if-not-is_formed_port.false))
