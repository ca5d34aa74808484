-- What the calls that read answer.
use Rattle.std.specs.Prelude.{◌≡◌, ◌≢◌, ◌==◌, ◌<◌, ◌^◌, ◌⊎◌, ℕ, Bool, List, [], filter, Contains, Option, Some, None, String, string_bytes, IsUtf8}
use Rattle.office_rows.specs.{Rows.{Partner, Interchange, Rows}, Effects.is_pair}
use Rattle.office_tables.specs.declared.interchanges.Kept.{Kept}

-- the interchanges of a partner under a number
abbrev pub pair_of : ℕ → ℕ → Rows → List Interchange
pair_of partner number rows = filter (is_pair partner number) rows.interchanges

-- an interchange that waits has no reply, and one that was taken has one that says something
abbrev pub RepliesAs : {A : Type 0} → Option (String A) → List ℕ → Type 0
RepliesAs None text = text ≡ []
RepliesAs (Some reply) text = (text ≡ string_bytes reply) × (text ≢ [])

-- the interchange of the pair, or none if there is none
abbrev pub IsKept : ℕ → ℕ → Rows → Option Kept → Type 0
IsKept partner number rows None = pair_of partner number rows ≡ []
IsKept partner number rows (Some kept) =
    (i : Interchange) × Contains (pair_of partner number rows) i × (kept.text.items ≡ i.body)
    × RepliesAs kept.reply i.reply

-- an interchange of the pair has a reply that is no text
abbrev pub HasUnfitReply : ℕ → ℕ → Rows → Type 0
HasUnfitReply partner number rows = (i : Interchange) × Contains (pair_of partner number rows) i × ¬ IsUtf8 i.reply

abbrev pub has_id : ℕ → Partner → Bool
has_id id partner = partner.id == id

-- the next number of the account of this id
abbrev pub IsNextOf : ℕ → Rows → ℕ → Type 0
IsNextOf id rows next = (p : Partner) × Contains (filter (has_id id) rows.partners) p × (p.next ≡ next)

-- no account has this id, or one that has it has a next number of more than 32 bits
abbrev pub LacksNext : ℕ → Rows → Type 0
LacksNext id rows =
    (filter (has_id id) rows.partners ≡ [])
    ⊎ ((p : Partner) × Contains (filter (has_id id) rows.partners) p × ¬ (p.next < 2 ^ 32))
