-- The lists that texts that wait name, as they are read.
use Rattle.std.specs.{Prelude.{◌≡◌, ◌↔◌, ℕ, List, [], length, map, Contains, Option, None, Some}, List.{flat_map, range_with_len}}
use Rattle.office_rows.specs.{Rows.{Partner, Rows}, Shown.AreNexts}
use Rattle.office_admission.specs.Setups.{SetupContent}
use Rattle.office_history.specs.{After.AreKeptOnce, Cascade.text_in}
use Rattle.office_loading.specs.Waiting.{waiting_numbers}
use Rattle.office_parts.specs.OwnLists.{ListName}
use Rattle.office_closing.specs.Going.{IsWaitedFor, lists_in}

-- the lists that a text of the partner names, if there is one
abbrev pub lists_if_any : SetupContent → (partner : ℕ) → Option (List ℕ) → List ListName
lists_if_any content partner None = []
lists_if_any content partner (Some text) = lists_in content partner text

-- those that the text names that is kept under the partner's number
abbrev pub lists_under : SetupContent → Rows → (partner number : ℕ) → List ListName
lists_under content rows partner number = lists_if_any content partner (text_in rows partner number)

-- those of each of these numbers
abbrev pub lists_under_each : SetupContent → Rows → (partner : ℕ) → (numbers : List ℕ) → List ListName
lists_under_each content rows partner numbers = flat_map (lists_under content rows partner) numbers

-- those of the numbers that wait beyond the next one
abbrev pub lists_beyond : SetupContent → Rows → (partner next : ℕ) → List ListName
lists_beyond content rows partner next =
    lists_under_each content rows partner (waiting_numbers partner next rows)

-- one of these numbers waits
abbrev pub WaitsBeyond : (partner next : ℕ) → Rows → Type 0
WaitsBeyond partner next rows = (number : ℕ) × Contains (waiting_numbers partner next rows) number

-- a text of an account waits
pub record HasWaiting (rows : Rows) : Type 0 where
  pub account : Partner
  pub has : Contains rows.partners account
  pub waits : WaitsBeyond account.id account.next rows

-- These are the next numbers of the rows' accounts, which have the ids 1, 2 and so on, and no number has two texts.
pub record HaveNexts (rows : Rows) (nexts : List ℕ) : Type 0 where
  pub accounts : map (λ (p : Partner). p.id) rows.partners ≡ range_with_len 1 (length rows.partners)
  pub are : AreNexts rows nexts
  pub kept_once : AreKeptOnce rows.interchanges

-- these are the lists that the rows' texts that wait name
abbrev pub AreWaitedFor : SetupContent → Rows → List ListName → Type 0
AreWaitedFor content rows lists = (list : ListName) → (Contains lists list ↔ IsWaitedFor content rows list)
