use Rattle.std.proofs.Common.{◌≡◌, ℕ, List, map, rules, ap, ◌∙◌}
use Rattle.edi_messages.specs.declared.codes.Codes.{Codes}
use Rattle.serde_json.specs.{Data.{Data, null}, View.view, declared.value.Value.{TheVariants.Null, the_lemmas}}
use Rattle.office_reports.specs.{Interchanges.{row_content, rows_of}, Last.{LastRowContent, first_kind}, declared.interchanges.MessageRow.MessageRow}
use Rattle.office_reports.proofs.last.last_row.Goals as goal

pub returns : goal.returns
returns c =
    let sent : Codes = record { kind = c.args.kind; table = c.args.table.now } in
    let nothing : view Null ≡ null = search (rules, the_lemmas) in
    let own : c.for_kind-codes.result ≡ sent =
    λ i. record { kind = c.for_kind-codes.ensures.kind i; table = c.for_kind-codes.ensures.table i } in
    let rows : map row_content c.in_ok-messages.messages.items ≡ rows_of sent c.args.arrival.now.text.items null =
    c.in_ok-messages.ensures ∙ ap (rows_of c.for_kind-codes.result c.deref.result.now) nothing ∙ ap (λ (text : List ℕ). rows_of c.for_kind-codes.result text null) c.deref.ensures.value
    ∙ ap (λ (codes : Codes). rows_of codes c.args.arrival.now.text.items null) own in
    let kind : c.first_kind.result ≡ first_kind (rows_of sent c.args.arrival.now.text.items null) =
    c.first_kind.ensures ∙ ap (λ (all : List MessageRow). first_kind (map row_content all)) c.deref-2.ensures.value
    ∙ ap first_kind rows in
    λ i. record {
      code = c.args.code.now;
      number = c.args.arrival.now.number;
      kind = kind i;
      settled = c.in_ok-settled_if_taken.ensures i;
    }
