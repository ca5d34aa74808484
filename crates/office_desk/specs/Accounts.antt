-- What a desk answers to an account that is to be added, and what it leaves.
use Rattle.std.specs.Prelude.{◌≡◌, ◌⊎◌, ℕ, List, [], ◌∷◌, ◌++◌, Option, None, Some, string_bytes}
use Rattle.sqlite.specs.{Held.state, State.State, Tree.Trees}
use Rattle.sqlite_trees.specs.declared.store.Store.{Ghosts}
use Rattle.edi_messages.specs.declared.codes.PartnerKind.{PartnerKind}
use Rattle.office_admission.specs.{Accounts.{AccountContent, AccountPair, added_as, known_as, refused_for, account_answer, content_after}, Kinds.kind_named}
use Rattle.office_admission.specs.Setups.{SetupContent, setup_content, setup_with_account}
use Rattle.office_replies.specs.{AccountAnswers.{account_added_text, account_known_text}, Events.{Event, added}, declared.accounts.AccountAnswer.AccountAnswer}
use Rattle.office_replies.specs.declared.accounts.AccountAnswer.TheVariants.{Added, Known, Refused, NotNow}
use Rattle.office_rows.specs.{Effects.with_partner, Rows.Rows, Stored.{HasRows, StoresRows}}
use Rattle.office_desk.specs.{Crashes.{IsAfter, Leaves}, Leaving.LeavesRows, declared.accounts.AccountStanding.AccountStanding, declared.beside.Beside.Beside}
use Rattle.office_desk.specs.declared.desk.Desk.{Desk}
use Rattle.office_desk.specs.declared.accounts.AccountStanding.TheVariants as standing

-- ---- the answer

abbrev pub standing_content : AccountStanding → AccountContent
standing_content (standing.New id) = added_as id
standing_content (standing.Known id) = known_as id
standing_content (standing.Refused fault) = refused_for fault

-- The answer says this, in its body too. What is refused takes no memory and no store, so it is never NotNow.
abbrev pub Says : AccountContent → List ℕ → AccountAnswer → Type 0
Says (added_as id) code (Added given body) = (given ≡ id) × (string_bytes body ≡ account_added_text id code)
Says (added_as id) code NotNow = Unit {0}
Says (known_as id) code (Known given body) = (given ≡ id) × (string_bytes body ≡ account_known_text id code)
Says (known_as id) code NotNow = Unit {0}
Says (refused_for fault) code (Refused given) = given ≡ fault
Says said code answer = ⊥

-- from that opening set-up, after those events, the answer to an account that is to be added: by the accounts so far
abbrev pub AnswersAccount : SetupContent → List Event → List ℕ → List ℕ → AccountAnswer → Type 0
AnswersAccount content es code kind answer =
    Says (account_answer (content_after content es).partners code kind) code answer

-- ---- what stands beside the rows

-- with the number 1 for one partner more, or none as before
abbrev pub IsLengthened : (old new : Option Beside) → Type 0
IsLengthened None None = Unit {0}
IsLengthened (Some old) (Some new) =
    (new.terminal ≡ old.terminal) × (new.nexts.items ≡ old.nexts.items ++ 1 ∷ [])
IsLengthened old new = ⊥

-- as before, or none: then it has to be loaded
abbrev pub IsSameOrNone : (old new : Option Beside) → Type 0
IsSameOrNone old new = (new ≡ old) ⊎ (new ≡ None)

-- ---- what is left

-- whatever rows it has: an account that is added is one in the set-up, in the rows and beside them; what is refused or
-- known changes nothing at all; NotNow leaves the set-up and the rows, and beside them what was there or nothing
abbrev pub AddsOver : {S : Type 0} (g : Ghosts S) (old : Desk S g) → List ℕ → List ℕ → AccountAnswer → Desk S g → Type 0
AddsOver g old code kind (Added id body) new =
    (own : PartnerKind) × (kind_named kind ≡ Some own)
    × (setup_content new.setup ≡ setup_with_account (setup_content old.setup) code own)
    × ((rows : Rows) → HasRows rows (state g old.conn).committed →
    HasRows (with_partner id code own rows) (state g new.conn).committed)
    × IsLengthened old.beside new.beside
AddsOver g old code kind NotNow new =
    (new.setup ≡ old.setup) × ((state g new.conn).committed ≡ (state g old.conn).committed)
    × IsSameOrNone old.beside new.beside
AddsOver g old code kind answer new =
    (new.conn ≡ old.conn) × (new.setup ≡ old.setup) × (new.beside ≡ old.beside)

-- what is added stands, and what is answered NotNow is there whole or not at all
abbrev pub LeavesAdded : SetupContent → List Event → List ℕ → List ℕ → AccountAnswer → State → Type 0
LeavesAdded content es code kind (Added id body) s = Leaves content (es ++ added code kind ∷ []) s
LeavesAdded content es code kind NotNow s =
    (db : Trees) → s.may_leave db → IsAfter content es db ⊎ IsAfter content (es ++ added code kind ∷ []) db
LeavesAdded content es code kind answer s = Leaves content es s

-- of whatever rows were committed: with an account that is added a crash leaves only those with it; NotNow leaves these
-- or the old ones; any other answer leaves the old ones
abbrev pub LeavesAddedOver : List AccountPair → Rows → List ℕ → List ℕ → AccountAnswer → State → Type 0
LeavesAddedOver accounts rows code kind (Added id body) s =
    (own : PartnerKind) × (kind_named kind ≡ Some own) × LeavesRows (with_partner id code own rows) s
LeavesAddedOver accounts rows code kind NotNow s =
    (db : Trees) → s.may_leave db → StoresRows rows db
    ⊎ ((own : PartnerKind) × (id : ℕ) × (kind_named kind ≡ Some own) × (account_answer accounts code kind ≡ added_as id)
    × StoresRows (with_partner id code own rows) db)
LeavesAddedOver accounts rows code kind answer s = LeavesRows rows s
