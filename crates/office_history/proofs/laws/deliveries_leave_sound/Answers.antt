use Rattle.office_history.{specs.After.{content_after, deliveries_of, taking_in}, proofs.{Afters.state_sound, Places.sound_in}}
use Rattle.terminal_core.specs.Versions.{newest}
use Rattle.office_admission.proofs.Adding.{given_after}
use Rattle.office_history.proofs.laws.deliveries_leave_sound.Goals as goal

pub returns : goal.returns
returns c = λ content es given. state_sound (taking_in newest content es) (content_after content es) (deliveries_of content es) (sound_in newest content es) (given_after es content given)
