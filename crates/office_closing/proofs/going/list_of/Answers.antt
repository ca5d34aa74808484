use Rattle.std.proofs.Common.{map, refl, sym, subst, ◌∙◌}
use Rattle.office_parts.specs.Named.{named_list_content}
use Rattle.office_rows.specs.Rows.{listing_content}
use Rattle.office_closing.{specs.Found.{IsFoundAs, list_on}, proofs.FoundLemmas.named_tied}
use Rattle.office_closing.proofs.going.list_of.Goals as goal

pub returns-then-is_named-clause-none : goal.returns-then-is_named-clause-none
returns-then-is_named-clause-none c all = (named_tied c.args.named.now (listing_content c.args.line.now)).0 (sym c.is_named.ensures ∙ c.if-is_named.true)

pub returns-in_default-clause-none : goal.returns-in_default-clause-none
returns-in_default-clause-none c all = let open_line = rw c.in_default.is at c.in_ok-text.ensures.none in absurd (open_line all)

pub returns-clause-found : goal.returns-clause-found
returns-clause-found c =
    let line = listing_content c.args.line.now in
    subst (IsFoundAs (map listing_content c.args.lines.now) (map named_list_content c.args.named.now) c.args.archive (list_on line)) (sym c.in_ok-settled.ensures)
    (record {
      its = refl;
      unnamed = λ inside. let yes = sym c.is_named.ensures in let no = c.if-is_named.false in let bad = (named_tied c.args.named.now line).1 inside in absurd cc;
      tells = rw c.in-Some.is at c.in_ok-text.ensures.done;
      archive_is = refl;
    })
