-- What the desk answers, and what it leaves.
use Rattle.std.specs.Prelude.{◌≡◌, ℕ, ◌+◌, ◌-◌, List, [], ◌∷◌, ◌++◌, length, slice_set, Option, Some, IsTrue}
use Rattle.sqlite.specs.{Effect.Database, State.State, Tree.Trees}
use Rattle.edi_syntax.specs.Interchange.{interchange_of}
use Rattle.partner_core.specs.{Answers.Taken, Deliveries.{Delivery, delivery}}
use Rattle.office_replies.specs.{Events.{Event, delivered}, Contents.content_of, declared.deliver.Response.Response}
use Rattle.office_rows.specs.{Rows.Rows, Stored.{HasRows, StoresRows}}
use Rattle.office_admission.specs.{Given.IsGiven, Setups.SetupContent, declared.setup.Setup.Setup, Taking.{MachineState, machine_of}}
use Rattle.office_history.specs.{After.{AreAfter, content_after}, Cascade.{TakenContent, AreTakenFrom, texts_with, with_run}, Laws.{IsFor, answer_model_of}}
use Rattle.office_desk.specs.{Answers.answer_by_model, Beside.IsBeside, declared.beside.Beside.Beside, declared.taking.Delivery.Delivery as Delivered}

-- the text is taken, and those that become next by it, and the partner's number is raised by the length of this run;
-- the response has the reply of the first, and the rows are committed, so that a crash leaves only these
pub record TakesNext (rows : Rows) (d : Delivery) (code : List ℕ) (setup : Setup) (old : Beside)
    (response : Response) (new : Beside) (end : State) : Type 0 where
  pub first : TakenContent
  pub later : List TakenContent
  pub taken : AreTakenFrom d.partner (texts_with rows d.partner d.number d.text) d.number
      (machine_of setup old.terminal) (first ∷ later) (machine_of setup new.terminal)
  pub raised : new.nexts.items ≡ slice_set old.nexts.items (d.partner - 1) (d.number + length (first ∷ later))
  pub answers : content_of response ≡ answer_by_model code d.number (Taken (Some first.reply))
  pub has : HasRows (with_run d.partner d.number d.text (first ∷ later) rows) end.committed
  pub is_open : IsTrue end.is_open
  pub alone : (db : Trees) → end.may_leave db → db ≡ end.committed.trees

-- the text was taken, and those that became next by it: a store holds the rows after them
pub record IsRunDone (rows : Rows) (d : Delivery) (old : MachineState) (db : Trees) : Type 0 where
  pub taken : List TakenContent
  pub new : MachineState
  pub are_taken : AreTakenFrom d.partner (texts_with rows d.partner d.number d.text) d.number old taken new
  pub are : StoresRows (with_run d.partner d.number d.text taken rows) db

-- for that opening set-up, after those events: with the accounts so far it is the set-up of now, the database has the
-- rows, and what stands beside it is at them
pub record Holds (content : SetupContent) (es : List Event) (now : SetupContent) (db : Database) (there : Option Beside)
    : Type 0 where
  pub given : IsGiven content
  pub now_is : content_after content es ≡ now
  pub rows : Rows
  pub has : HasRows rows db
  pub after : AreAfter content es rows
  pub beside : IsBeside content es there

-- it is what was delivered, and the accounts so far admit it for that partner under that number
pub record Comes (content : SetupContent) (es : List Event) (sent : List ℕ) (d : Delivery) : Type 0 where
  pub text_is : d.text ≡ interchange_of sent
  pub is_for : IsFor content es sent d.partner d.number

-- the response to the partner with a code is what is to be reported of it, and these are held after it
pub record Answers (content : SetupContent) (es : List Event) (sent : List ℕ) (d : Delivery) (code : List ℕ)
    (response : Response) (now : SetupContent) (db : Database) (there : Option Beside) : Type 0 where
  pub answers : content_of response ≡ answer_by_model code d.number (answer_model_of content es d.partner d.number sent)
  pub holds : Holds content (es ++ delivered sent ∷ []) now db there

-- the delivery that the code's is
abbrev pub delivery_of : Delivered → Delivery
delivery_of d = delivery d.admitted.partner d.number d.text.now
