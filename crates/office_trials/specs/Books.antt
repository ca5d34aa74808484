-- What is written into a book.
use Rattle.std.specs.{Prelude.{◌≡◌, ℕ, List, Option}, Io.KnownBytes.Appends}
use Rattle.office_replies.specs.{declared.deliver.Fault.TheVariants.UnknownSender, declared.deliver.Response.Response, Fronts.AppendsFront}
use Rattle.office_replies.specs.declared.deliver.Response.TheVariants.{Refused, NotNow}

-- a text that is refused was written after what the book held; of one that is answered NotNow a front was
abbrev pub Enters : Option (List ℕ) → List ℕ → Response → Option (List ℕ) → Type 0
Enters held text NotNow holds = AppendsFront held holds text
Enters held text response holds = (response ≡ Refused UnknownSender) × Appends held holds text
