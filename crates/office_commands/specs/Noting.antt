-- How what was answered is noted for a person.
use Rattle.office_admission.specs.declared.tally.Tally.{Tally}
use Rattle.office_replies.specs.{declared.accounts.AccountAnswer.AccountAnswer, declared.deliver.Response.Response}
use Rattle.office_commands.specs.{declared.notes.AccountNote.AccountNote, declared.notes.DeliveryNote.DeliveryNote, declared.notes.WhyNotNow.WhyNotNow}
use Rattle.office_replies.specs.declared.accounts.AccountAnswer.TheVariants as account
use Rattle.office_replies.specs.declared.deliver.Response.TheVariants as response
use Rattle.office_commands.specs.declared.notes.AccountNote.TheVariants as account_noted
use Rattle.office_commands.specs.declared.notes.DeliveryNote.TheVariants as noted

-- a delivery that was answered so: what became of it, if it was taken, and why it could not be answered now
abbrev pub delivery_note : Tally → WhyNotNow → Response → DeliveryNote
delivery_note taken why (response.Taken body) = noted.Taken taken
delivery_note taken why (response.Repeat body) = noted.Repeat
delivery_note taken why (response.Waiting body) = noted.Waiting
delivery_note taken why (response.Clash body) = noted.Clash
delivery_note taken why (response.Refused fault) = noted.Refused fault
delivery_note taken why (response.RefusedWithContrl fault body) = noted.Refused fault
delivery_note taken why response.NotNow = noted.NotNow why

-- an account that was asked for, and answered so
abbrev pub account_note : WhyNotNow → AccountAnswer → AccountNote
account_note why (account.Added id body) = account_noted.Added
account_note why (account.Known id body) = account_noted.Known
account_note why (account.Refused fault) = account_noted.Refused fault
account_note why account.NotNow = account_noted.NotNow why
