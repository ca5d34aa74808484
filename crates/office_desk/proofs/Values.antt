-- What is told as a text is shown as that, whatever it is to be shown as.
use Rattle.std.proofs.Common.{◌≡◌, List, ℕ, Option, None, Some, option_map, refl, ap}
use Rattle.edi_messages.specs.Purposes.{CallContent}
use Rattle.terminal_core.specs.{State.{LineContent, TerminalState}, declared.lines.Side.Side}
use Rattle.office_reports.specs.{Lists.IsOfLines, declared.query.View.View}
use Rattle.office_report_data.specs.Told.{ReportContent, shown}
use Rattle.office_desk.specs.Reports.{IsText, Shows}
use Rattle.office_report_data.specs.Told as value

pub text_shown : (view : View) (found : Option (List ℕ)) → found ≡ option_map (shown view) (option_map value.text found)
unfolding shown
text_shown view None = refl
text_shown view (Some text) = refl

pub shows_text : (tells : Option (List ℕ) → Type 0) (view : View) (found : Option (List ℕ)) → tells found → Shows (IsText tells) view found
shows_text tells view found told = (option_map value.text found, (found, told, refl), text_shown view found)

-- what is told of a call's list is told as a value
pub of_lines : {X : Type 0} (content : X → ReportContent) (state : TerminalState) (call : CallContent) (side : Side) (told : List (List ℕ × LineContent) → Option X) (found : Option X) → IsOfLines state call side told found
    → IsOfLines state call side (λ lines. option_map content (told lines)) (option_map content found)
of_lines content state call side told found is = record { list = is.list; listed = is.listed; is = ap (option_map content) is.is }
