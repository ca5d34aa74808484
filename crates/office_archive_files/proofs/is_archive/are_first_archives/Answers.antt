use Rattle.std.proofs.Common.{◌≡◌, false, true, refl, arith, rules}
use Rattle.office_closing.specs.Register.{archive_content}
use Rattle.office_closing.proofs.FirstLemmas.{are_the_first, first_no_more, first_same}
use Rattle.office_archive_files.proofs.is_archive.are_first_archives.Goals as goal

pub returns-then-archives-others : goal.returns-then-archives-others
returns-then-archives-others c = (λ e. absurd cc, λ first. absurd (let low = first_no_more archive_content c.args.archives.now c.args.others.now first in omega (arith, low)))

pub returns-then-not-is_same_archive : goal.returns-then-not-is_same_archive
returns-then-not-is_same_archive c = (
  λ e. absurd cc,
  λ first. absurd (
      let here = first_same archive_content c.args.archives.now c.args.others.now first c.loop-index.index c.index-archives-index.result c.index-others-index.result (omega arith) c.index-archives-index.is c.index-others-index.is in
      let passes = c.is_same_archive.ensures.1 here in
      let fails : c.is_same_archive.result ≡ false = search rules in
      cc),
)

pub returns : goal.returns
returns c = (λ e. are_the_first archive_content c.args.archives.now c.args.others.now c.loop-index.index (omega arith) (omega arith) c.loop-index.invariant, λ first. refl)
