use Rattle.std.proofs.{Common.{◌≡◌, ◌==◌, List, [], ◌∷◌, ◌++◌, length, map, true, sym, ap, ◌∙◌, subst, lit<, rules, eq-eqb}, lemmas.List.map-append}
use Rattle.std.proofs.lemmas.Str.Pattern.{split_parts}
use Rattle.edi_messages.specs.Owned.{call_content}
use Rattle.office_rows.specs.Rows.{ListingContent, listing_content}
use Rattle.office_closing.proofs.TextLemmas.{IsReadUpTo, read_more, refused_line, refused_rest}
use Rattle.office_closing.proofs.list_reading.read_list.Goals as goal

pub returns-in_default-2-clause-none : goal.returns-in_default-2-clause-none
returns-in_default-2-clause-none c all theirs =
    let split = rw c.in-Some.is at (split_parts 10 c.lines.rest.now c.split_once.result c.split_once.ensures.cases (lit< tt)) in
    let none = rw c.in_default-2.is at c.in_ok-line.ensures.none in
    refused_line (call_content c.args.call.now) c.args.side c.lines.rest.now c.in-Some.line.now c.in-Some.after.now split.0 split.1 none
    (c.lines.invariant.1.left (record { lines = all; theirs = theirs }))

pub lines-preserved : goal.lines-preserved
lines-preserved c =
    let split = rw c.in-Some.is at (split_parts 10 c.lines.rest.now c.split_once.result c.split_once.ensures.cases (lit< tt)) in
    let line = rw c.in-Some-2.is at c.in_ok-line.ensures.line in
    let lines : map listing_content c.push.new.self.items ≡ map listing_content c.lines.lines.items ++ (listing_content c.in-Some-2.line ∷ []) =
    ap (map listing_content) c.in_ok-push.ensures.items ∙ map-append listing_content c.lines.lines.items (c.in-Some-2.line ∷ []) in (
      search rules,
      subst (λ (all : List ListingContent). IsReadUpTo (call_content c.args.call.now) c.args.side c.args.text.now all c.in-Some.after.now) (sym lines)
          (read_more (call_content c.args.call.now) c.args.side c.args.text.now (map listing_content c.lines.lines.items) c.lines.rest.now
          c.in-Some.line.now c.in-Some.after.now (listing_content c.in-Some-2.line) c.lines.invariant.1 split.0 line),
    )

pub returns-then-not-is_empty-clause-none : goal.returns-then-not-is_empty-clause-none
returns-then-not-is_empty-clause-none c all theirs =
    let none = rw c.in_default.is at (split_parts 10 c.lines.rest.now c.split_once.result c.split_once.ensures.cases (lit< tt)) in
    refused_rest (call_content c.args.call.now) c.args.side c.lines.rest.now none
    (λ e.
    let empty : (length c.lines.rest.now == 0) ≡ true = eq-eqb (length c.lines.rest.now) 0 e in
    let is = c.is_empty.ensures in
    let other = c.if-not-is_empty.true in
    cc)
    (c.lines.invariant.1.left (record { lines = all; theirs = theirs }))
