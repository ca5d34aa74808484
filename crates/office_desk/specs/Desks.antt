-- Where a desk stands, and what it answers.
use Rattle.std.specs.Prelude.{◌≡◌, ℕ, List, Err, IsTrue}
use Rattle.sqlite.specs.{Held.state, State.HasCleanDisk}
use Rattle.sqlite_trees.specs.declared.store.Store.{Ghosts}
use Rattle.edi_syntax.specs.{Interchange.{interchange_of, segments_in}, Envelope.header_of}
use Rattle.office_replies.specs.{Events.Event, Contents.GivesOrNotNow, declared.deliver.Fault.Fault, declared.deliver.Response.Response}
use Rattle.office_admission.specs.{Parties.parties_of, Setups.{SetupContent, setup_content}, Admission.admission, Refusals.refusal_of}
use Rattle.office_history.specs.After.{SaysSame, content_after}
use Rattle.office_desk.specs.{Telling.Holds, Crashes.Leaves, declared.desk.Desk.Desk}

-- so far its disk has returned what was written, and its connection is open
abbrev pub IsSound : {S : Type 0} (g : Ghosts S) → Desk S g → Type 0
IsSound g desk = HasCleanDisk (state g desk.conn) × IsTrue (state g desk.conn).is_open

-- for that opening set-up, after those events, it is this desk
abbrev pub StandsFor : {S : Type 0} (g : Ghosts S) → SetupContent → List Event → Desk S g → Type 0
StandsFor g content es desk = Holds content es (setup_content desk.setup) (state g desk.conn).committed desk.beside

-- a desk that was opened on the rows after those events: its set-up says the same as the opening one with the accounts
-- so far, it stands there for an opening set-up that says the same, and a crash leaves these rows
pub record OpensAt {S : Type 0} (g : Ghosts S) (content : SetupContent) (es : List Event)
    (desk : Desk S g) : Type 0 where
  pub says : SaysSame (setup_content desk.setup) (content_after content es)
  pub opening : SetupContent
  pub opening_says : SaysSame opening content
  pub stands : StandsFor g opening es desk
  pub leaves : Leaves opening es (state g desk.conn)

-- a text that is refused is answered so, or NotNow, and the desk is as it was
abbrev pub Refuses : {S : Type 0} (g : Ghosts S) → List ℕ → Desk S g → Response → Desk S g → Type 0
Refuses g sent old given new =
    (fault : Fault) → admission (parties_of old.setup) (interchange_of sent) ≡ Err fault →
    (new.conn ≡ old.conn) × (new.setup ≡ old.setup) × (new.beside ≡ old.beside)
    × GivesOrNotNow (refusal_of (parties_of old.setup)
    (header_of (segments_in (interchange_of sent))) fault) given
