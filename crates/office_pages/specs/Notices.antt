-- What a page says in place of a report.
use Rattle.std.specs.Prelude.{ℕ, false, List, [], ◌∷◌, ◌++◌, codes}
use Rattle.office_pages.specs.{Fixed.foot, Frame.page_top, Pieces.{Container, Markup, pieces_text}, declared.notices.Notice.Notice}
use Rattle.office_pages.specs.declared.notices.Notice.TheVariants as notice

abbrev pub notice_title : Notice → List ℕ
notice_title notice.NotHere = codes "Not here"
notice_title notice.Form = codes "No container number"
notice_title (notice.CheckDigit number) = codes "Another check digit"

abbrev pub notice_top : List ℕ → List ℕ
notice_top title =
    page_top [] false (Markup title ∷ [])
    ++ pieces_text (Markup (codes "<h1>") ∷ Markup title ∷ Markup (codes "</h1>\n<section>\n<p>") ∷ [])

abbrev pub notice_view : Notice → List ℕ
notice_view notice.NotHere =
    pieces_text (Markup (codes "There is nothing under this address.</p>\n</section>\n") ∷ [])
notice_view notice.Form = pieces_text
    (Markup (codes "A container has a number of four letters and seven digits, as ABCU 000001 7.</p>\n</section>\n") ∷ [])
notice_view (notice.CheckDigit number) = pieces_text
    (Markup (codes "The last digit is not the check digit. With the right one it is ") ∷ Container number
    ∷ Markup (codes ".</p>\n</section>\n") ∷ [])

abbrev pub notice_bytes : Notice → List ℕ
notice_bytes what = notice_top (notice_title what) ++ notice_view what ++ foot
