-- Pages with a note of how many archives there are.
use Rattle.std.{specs.Option.option_map, proofs.Common.{◌≡◌, ℕ, ◌-◌, List, [], ◌++◌, length, take, Option, None, Some, refl, sym, ap, ◌∙◌, arith}}
use Rattle.std.proofs.{Math.Seq.take-append_seam, lemmas.List.{append-nil, length-append}}
use Rattle.box6346.specs.declared.box_number.BoxNumber.{BoxNumber}
use Rattle.terminal_core.specs.State.{LineContent, LineKey}
use Rattle.office_reports.specs.declared.query.View.TheVariants.{Page}
use Rattle.office_pages.specs.{Archives.archives_note, Fixed.foot, Wanted.expected_page}
use Rattle.office_report_data.specs.Told.{ReportContent, shown}
use Rattle.office_archives.specs.Telling.{AreAsked, AreEnded, with_note}
use Rattle.office_report_data.specs.Told as value

-- what stands before a page's end stays
pub body_left : (body : List ℕ) → take (length (body ++ foot) - length foot) (body ++ foot) ≡ body
body_left body =
    let many : length (body ++ foot) - length foot ≡ length body = omega (arith, length-append body foot) in
    ap (λ n. take n (body ++ foot)) many ∙ take-append_seam body foot

pub note_before_end : (count : ℕ) (body : List ℕ) → with_note count (body ++ foot) ≡ body ++ archives_note count ++ foot
note_before_end count body = ap (λ (kept : List ℕ). kept ++ archives_note count ++ foot) (body_left body)

-- where there are none a page is as it is
pub no_note : (page : Option (List ℕ)) → AreEnded page → option_map (with_note 0) page ≡ page
no_note None ended = refl
no_note (Some page) ended = ap (λ p. Some (with_note 0 p)) ended.1 ∙ ap Some (note_before_end 0 ended.0) ∙ ap Some (without ended.0 ∙ sym ended.1)
  where
    without : (body : List ℕ) → body ++ [] ++ foot ≡ body ++ foot
    without body = simp append-nil

-- what is told beside archives is a page
pub asked_end : (what : Option ReportContent) → AreAsked what → AreEnded (option_map (shown Page) what)
unfolding shown
asked_end None asked = tt
asked_end (Some (value.container report lists visits)) asked = (_, refl)
asked_end (Some (value.visits report)) asked = (_, refl)
asked_end (Some (value.calls lists)) asked = (_, refl)
asked_end (Some other) asked = absurd asked

pub expected_end : (container : BoxNumber) (lists : List (LineKey × LineContent)) → AreEnded (Some (expected_page container lists))
expected_end container lists = (_, refl)
