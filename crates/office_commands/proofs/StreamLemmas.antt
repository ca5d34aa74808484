-- What is said of a stream by how it came out, and of one to a desk of which nothing was put away.
use Rattle.std.proofs.Common.{◌≡◌, ◌≢◌, ◌≤◌, ◌<◌, ℕ, ◌+◌, ◌-◌, ◌^◌, ◌++◌, min, List, [], ◌∷◌, true, false, Result, Ok, Err, IfErr, OnOk, arith}
use Rattle.sqlite.specs.Recovery.{Image}
use Rattle.office_replies.specs.{Delivering.{AreAnswered, AnswersEach, LeadsOn, with_answered, events_behind}, Events.Event, declared.deliver.Response.Response}
use Rattle.office_replies.specs.{declared.deliver.Worst.Worst, Faults.MatchFault, declared.stream.StreamFault.StreamFault}
use Rattle.office_replies.specs.declared.stream.StreamFault.TheVariants.{Read, Write, Turns}
use Rattle.office_admission.specs.Setups.{SetupContent}
use Rattle.office_history.specs.After.{SaysSame}
use Rattle.office_desk.specs.{Answers.AnswersNext, Calls.Leads, Desks.{IsSound, OpensAt, StandsFor}, declared.desk.Desk.Desk}
use Rattle.office_desk.proofs.AccountLemmas.{answered_all, leaves_all, sound_before}
use Rattle.sqlite_trees.specs.declared.store.Store.{Ghosts}
use Rattle.office_commands.specs.{Delivering.{AreDeliveredAlone, StandsAlike}, Opening.BeginsAt, Ending.{Ports, LeavesPorts, most_turns}}
use Rattle.office_commands.proofs.Alike.{answer_alike}

module _ {R W : Type 0} (old new : Ports R W) where
  -- what the ports have noted
  pub ports_by : (outcome : Result Worst StreamFault)
      → IfErr outcome (λ fault. MatchFault fault
      ((new.reader.failed ≡ true) × (new.writer.failed ≡ old.writer.failed))
      ((new.writer.failed ≡ true) × (new.reader.failed ≡ old.reader.failed))
      ((new.reader.failed ≡ old.reader.failed) × (new.writer.failed ≡ old.writer.failed)
      × (min (old.reader.reads + most_turns) (2 ^ 64 - 1) ≤ new.reader.reads)
      × (0 < most_turns → new.reader.ended ≡ false)))
      → OnOk outcome ((new.reader.failed ≡ old.reader.failed) × (new.writer.failed ≡ old.writer.failed))
      → OnOk outcome (new.writer.flushed ≡ true)
      → IfErr outcome (λ fault. fault ≢ Write → old.writer.flushed ≡ true → new.writer.flushed ≡ true)
      → LeavesPorts old new outcome
  ports_by (Ok worst) failed sound flushed told = (sound, flushed)
  ports_by (Err Read) failed sound flushed told = (failed.0, failed.1, told (λ e. absurd cc))
  ports_by (Err Write) failed sound flushed told = failed
  ports_by (Err Turns) failed sound flushed told =
      ((failed.0, failed.1), failed.2, failed.3 (omega arith), told (λ e. absurd cc))

-- ---- a desk that stands and answers so stands and answers also thus

module _ {D : Type 0} (stands stands' : List Event → D → Type 0) (answers answers' : List Event → List ℕ → Response → Type 0)
    (stand : (es : List Event) (desk : D) → stands es desk → stands' es desk)
    (answer : (es : List Event) (text : List ℕ) (given : Response) → answers es text given → answers' es text given) where
  each_also : (es : List Event) (texts : List (List ℕ)) (responses : List Response) → AnswersEach answers es texts responses → AnswersEach answers' es texts responses
  each_also es [] [] each = tt
  each_also es [] (response ∷ responses) each = absurd each
  each_also es (text ∷ texts) [] each = absurd each
  each_also es (text ∷ texts) (response ∷ responses) each =
      (answer es text response each.0, each_also (with_answered es text response) texts responses each.1)

  pub answered_also : (es : List Event) (desk : D) (texts : List (List ℕ)) (responses : List Response) → AreAnswered stands answers es desk texts responses → AreAnswered stands' answers' es desk texts responses
  answered_also es desk texts responses answered = record {
    each = each_also es texts responses answered.each;
    stands_now = stand (events_behind es texts responses) desk answered.stands_now;
  }

-- ---- deliveries to a desk of which nothing was put away

pub stand_alike : {S : Type 0} {g : Ghosts S} (one other : SetupContent) → SaysSame one other → (es : List Event) (desk : Desk S g) → StandsFor g one es desk → StandsAlike other es desk
stand_alike one other says es desk stands = record { opening = one; says = says; holds = stands }

pub delivered_alone : {S : Type 0} (g : Ghosts S) (image : Image) (opened desk : Desk S g) → (IsSound g opened → (content : SetupContent) (es : List Event) → BeginsAt image content es → OpensAt g content es opened) → (texts : List (List ℕ)) (responses : List Response)
    → LeadsOn (Leads g) opened texts responses desk → AreDeliveredAlone g image opened desk texts responses
delivered_alone g image opened desk opens texts responses led = record {
  led = led;
  answered = λ sound content es begins.
      let at = opens (sound_before g opened desk texts responses led sound) content es begins in
      answered_also (StandsFor g at.opening) (StandsAlike content) (AnswersNext at.opening) (AnswersNext content)
      (stand_alike at.opening content at.opening_says) (answer_alike at.opening content at.opening_says) es desk texts responses
      (answered_all g opened desk texts responses led sound at.opening es at.stands);
  leaves = λ sound content es begins.
      let at = opens (sound_before g opened desk texts responses led sound) content es begins in
      record { opening = at.opening; says = at.opening_says; holds = leaves_all g opened desk texts responses led sound at.opening es at.stands at.leaves };
}
