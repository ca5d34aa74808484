-- Events, as the deliveries of partners.
use Rattle.std.specs.Prelude.{ℕ, List, [], ◌∷◌, Result, Ok, Err}
use Rattle.edi_syntax.specs.Interchange.{interchange_of}
use Rattle.partner_core.specs.Deliveries.{Delivery, delivery}
use Rattle.office_replies.specs.{Events.{Event, delivered, migrated, added}, declared.deliver.Fault.Fault}
use Rattle.office_admission.specs.{Setups.{SetupContent, parties_in}, Accounts.content_with, Admission.admission}

-- a text that is admitted, as a delivery of its partner under its number; the others add nothing
abbrev pub with_delivery : List ℕ → Result (ℕ × ℕ) Fault → List Delivery → List Delivery
with_delivery text (Ok found) later = delivery found.0 found.1 text ∷ later
with_delivery text (Err fault) later = later

-- what came to an office, each text that was delivered without the CR and LF at both ends, as the accounts that stood
-- when it came admit it
abbrev pub deliveries_of : SetupContent → List Event → List Delivery
deliveries_of content [] = []
deliveries_of content (delivered text ∷ later) =
    with_delivery (interchange_of text) (admission (parties_in content) (interchange_of text))
    (deliveries_of content later)
deliveries_of content (migrated version ∷ later) = deliveries_of content later
deliveries_of content (added code kind ∷ later) = deliveries_of (content_with content (added code kind)) later
