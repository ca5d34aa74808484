-- An account that is asked for of a store and its archives.
use Rattle.std.proofs.Common.{ℕ, List}
use Rattle.sqlite.specs.Recovery.{Image}
use Rattle.sqlite_trees.specs.declared.store.Store.{Ghosts}
use Rattle.office_replies.specs.{Events.Event, declared.accounts.AccountAnswer.AccountAnswer}
use Rattle.office_admission.specs.Setups.{SetupContent}
use Rattle.office_desk.specs.{Calls.Enrols, Desks.{IsSound, OpensAt}, declared.desk.Desk.Desk}
use Rattle.office_parts.specs.Archives.{Archive}
use Rattle.office_archives.specs.Together.{EnrolsTogether}
use Rattle.office_commands.{specs.{Accounts.{IsAskedAlone, IsAskedOver}, Beside.OpensOn, Opening.BeginsAt}, proofs.Alike.account_alike}
use Rattle.office_commands.proofs.StreamLemmas.{stand_alike}

-- of a desk of which nothing was put away
asked_alone : {S : Type 0} (g : Ghosts S) (image : Image) (opened desk : Desk S g) → (IsSound g opened → (content : SetupContent) (es : List Event) → BeginsAt image content es → OpensAt g content es opened) → (code kind : List ℕ) (answer : AccountAnswer)
    → Enrols g opened code kind answer desk → IsAskedAlone g image desk code kind answer
asked_alone g image opened desk opens code kind answer enrolled = record {
  adds = λ sound content es begins.
      let at = opens (enrolled.stays sound) content es begins in
      let added = enrolled.adds sound at.opening es at.stands in
      (account_alike at.opening content at.opening_says es code kind answer added.0, stand_alike at.opening content at.opening_says _ desk added.1);
  leaves = λ sound content es begins.
      let was = enrolled.stays sound in
      let at = opens was content es begins in
      record { opening = at.opening; says = at.opening_says; holds = enrolled.crash was sound.0 at.opening es at.stands };
}

pub asked_over : {S A : Type 0} (g : Ghosts S) (is_sound : A → Type 0) (are : List Archive → A → Type 0) (image : Image) (opened office : Desk S g × A) → OpensOn g image opened.0 → (code kind : List ℕ)
    (answer : AccountAnswer) → EnrolsTogether g are opened.0 opened.1 code kind answer office.0 office.1 → IsAskedOver g is_sound are image opened office code kind answer
asked_over g is_sound are image opened office opens code kind answer enrolled = record {
  enrolled = enrolled;
  adds = λ sound list content es given holds these.
      let at = (opens.beside (enrolled.stays sound) list content es given holds).opens in
      let added = enrolled.adds sound at.opening es (record { list = list; these = these; stands = at.stands }) in (
        account_alike at.opening content at.opening_says es code kind answer added.0,
        record { opening = at.opening; says = at.opening_says; holds = added.1 },
      );
  leaves = λ sound list content es given holds these.
      let was = enrolled.stays sound in
      let at = (opens.beside was list content es given holds).opens in
      record {
        opening = at.opening;
        says = at.opening_says;
        holds = enrolled.crash was sound.0 at.opening es (record { list = list; these = these; stands = at.stands });
      };
  alone = λ alone. asked_alone g image opened.0 office.0 alone.events code kind answer enrolled.own;
}
