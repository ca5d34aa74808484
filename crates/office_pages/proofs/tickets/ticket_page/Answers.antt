use Rattle.std.proofs.{Common.{◌≡◌, ◌++◌, [], ap, ◌∙◌, length, map, rules, string_bytes, sym}, lemmas.List.length-map}
use Rattle.office_reports.{specs.Tickets.ticket_content, proofs.Markup.onto}
use Rattle.office_pages.specs.{Fixed.foot, Tickets.{closed_table, opened_table, ticket_top}}
use Rattle.terminal_core.specs.Rows.{visit_content}
use Rattle.office_pages.proofs.tickets.ticket_page.Goals as goal

pub returns : goal.returns
returns c =
    let ticket = ticket_content c.args.report.now in
    let opened = c.args.report.now.opened.items in
    let closed = c.args.report.now.closed.items in
    let many : c.len.result ≡ length opened = search rules in
    let came_in : c.len.result ≡ length ticket.opened = many ∙ sym (length-map opened _) in
    let many_closed : c.len-2.result ≡ length closed = search rules in
    let went_out : c.len-2.result ≡ length ticket.closed = many_closed ∙ sym (length-map closed _) in
    let top = ticket_top ticket.code ticket.number in
    let came = opened_table (length ticket.opened) ticket.opened in
    let went = closed_table (length ticket.closed) ticket.closed in
    let page1 = string_bytes c.push_ticket_top.new.page in
    let page2 = string_bytes c.push_opened.new.page in
    let page3 = string_bytes c.push_closed.new.page in
    let is1 = c.in_ok-push_ticket_top.ensures ∙ ap (λ t. t ++ top) c.new-page.ensures.bytes in
    let is2 = onto [] top came page1 page2 is1 (c.in_ok-push_opened.ensures
    ∙ (λ i. page1 ++ opened_table (came_in i) (map (λ visit. visit_content visit.now) (c.deref.ensures.value i)))) in
    let is3 = onto [] (top ++ came) went page2 page3 is2 (c.in_ok-push_closed.ensures
    ∙ (λ i. page2 ++ closed_table (went_out i) (map (λ visit. visit_content visit.now) (c.deref-2.ensures.value i)))) in
    onto [] (top ++ came ++ went) foot page3 (string_bytes c.push_str.new.self) is3
    (c.in_ok-push_str.ensures.bytes ∙ ap (λ t. page3 ++ t) c.foot.ensures)
