use Rattle.std.proofs.{Common.{◌≡◌, false, true, arith, rules, sym}, lemmas.List.length-map}
use Rattle.office_closing.specs.Register.{archive_content}
use Rattle.office_archive_files.proofs.is_archive.is_register_of.Goals as goal

pub returns-then-not-is_marked_for : goal.returns-then-not-is_marked_for
returns-then-not-is_marked_for c = (
  λ e. absurd cc,
  λ is. absurd (let passes = c.is_marked_for.ensures.1 is.marked in let fails : c.is_marked_for.result ≡ false = search rules in cc),
)

pub returns-then-len-from : goal.returns-then-len-from
returns-then-len-from c = (λ e. absurd cc, λ is. absurd (omega (arith, is.before, length-map c.args.own.now.archives.items archive_content, c.from.ensures, c.len.ensures, c.if-len-from.true)))

pub returns-then-not-are_lists_before : goal.returns-then-not-are_lists_before
returns-then-not-are_lists_before c = (
  λ e. absurd cc,
  λ is. absurd (
      let passes = c.are_lists_before.ensures.1 (rw (c.deref.ensures.value, c.deref-2.ensures.value) is.lists) in
      let fails : c.are_lists_before.result ≡ false = search rules in
      cc),
)

pub returns-else-are_first_archives : goal.returns-else-are_first_archives
returns-else-are_first_archives c = (
  λ e. absurd (let fails = c.if-are_first_archives.false in cc),
  λ is. absurd (
      let passes = c.are_first_archives.ensures.1 (rw (c.deref-3.ensures.value, c.deref-4.ensures.value) is.archives) in
      let fails = c.if-are_first_archives.false in
      cc),
)

pub returns-then-are_first_archives : goal.returns-then-are_first_archives
returns-then-are_first_archives c = (
  λ e. record {
    marked = c.is_marked_for.ensures.0 (search rules);
    before = rw (length-map c.args.own.now.archives.items archive_content) (search rules);
    archives = rw (sym c.deref-3.ensures.value, sym c.deref-4.ensures.value) (c.are_first_archives.ensures.0 (search rules));
    segments = rw (sym c.deref-then-are_first_archives.ensures.value, sym c.deref-then-are_first_archives-2.ensures.value) (c.are_segments_before.ensures.0 e);
    lists = rw (sym c.deref.ensures.value, sym c.deref-2.ensures.value) (c.are_lists_before.ensures.0 (search rules));
  },
  λ is. c.are_segments_before.ensures.1 (rw (c.deref-then-are_first_archives.ensures.value, c.deref-then-are_first_archives-2.ensures.value) is.segments),
)
