-- Seals: what tells the texts that an archive closes, and their replies, from all others.
use Rattle.std.specs.Prelude.{◌≡◌, ◌==◌, nat_le, nat_lt, ◌<◌, ℕ, ◌+◌, ◌-◌, ◌*◌, ◌/◌, min, List, [], ◌∷◌, ◌++◌, filter, find, fold, length, map, take, drop, if◌then◌else◌, Option, None, Some, option_map, option_to_list, string_bytes, IfSome}
use Rattle.std.specs.{Int.{w64, to_be_bytes}, List.{flat_map, range_with_len}, Option.unwrap_or}
use Rattle.sha2.specs.{Hashers.Holds256, Sha256.sha256}
use Rattle.office_rows.specs.{Rows.{Interchange, Rows}, Effects.is_pair}
use Rattle.office_tables.specs.declared.interchanges.Kept.{Kept}
use Rattle.office_closing.specs.{declared.comparing.Numbers.Numbers, declared.register.Segment.Segment, declared.sealing.Sealing.Sealing, Deleting.is_of}
use Rattle.office_closing.specs.Register.{RegisterContent, SealedContent, last_closed}

-- ---- what a seal is

-- the most interchanges that have one seal, and the bytes of a seal
abbrev pub most_sealed : ℕ
most_sealed = 50

abbrev pub seal_bytes : ℕ
seal_bytes = 32

-- what is kept under a number: its text and its reply, which is empty while it waits
pub record KeptContent : Type 0 where
  pub text : List ℕ
  pub reply : List ℕ

-- after its length in eight bytes, high first
abbrev pub measured : List ℕ → List ℕ
measured bytes = to_be_bytes w64 (length bytes) ++ bytes

-- the texts and replies, one after the other
abbrev pub sealed_message : List KeptContent → List ℕ
sealed_message kept = flat_map (λ (one : KeptContent). measured one.text ++ measured one.reply) kept

-- their seal
abbrev pub seal_of : List KeptContent → List ℕ
seal_of kept = sha256 (sealed_message kept)

-- what is left makes the last piece
abbrev pub last_piece : List KeptContent → List (List KeptContent)
last_piece [] = []
last_piece (one ∷ piece) = (one ∷ piece) ∷ []

-- what is kept in pieces of so many, the last one of what is left; the first piece has these already
abbrev pub pieces_after : (kept piece : List KeptContent) → List (List KeptContent)
pieces_after [] piece = last_piece piece
pieces_after (one ∷ kept) piece =
    if length piece + 1 == most_sealed then (piece ++ one ∷ []) ∷ pieces_after kept []
    else pieces_after kept (piece ++ one ∷ [])

-- what rows keep under a partner's number, and under its numbers
abbrev pub kept_content : Interchange → KeptContent
kept_content i = record { text = i.body; reply = i.reply }

abbrev pub kept_at : Rows → (partner number : ℕ) → Option KeptContent
kept_at rows partner number = option_map kept_content (find (is_pair partner number) rows.interchanges)

abbrev pub kept_under : Rows → Numbers → List KeptContent
kept_under rows numbers =
    flat_map (λ number. option_to_list (kept_at rows numbers.partner number))
    (range_with_len (numbers.from + 1) (numbers.to - numbers.from))

-- the seals of that, and of what is kept under the numbers of each partner
abbrev pub seals_under : Rows → Numbers → List ℕ
seals_under rows numbers = flat_map seal_of (pieces_after (kept_under rows numbers) [])

abbrev pub seals_of : Rows → List Numbers → List ℕ
seals_of rows closing = flat_map (seals_under rows) closing

-- ---- how they are made

-- seals so far, and what comes after that and has none yet
pub record SealingContent : Type 0 where
  pub seals : List ℕ
  pub piece : List KeptContent

abbrev pub no_seals : SealingContent
no_seals = record { seals = []; piece = [] }

-- with one more
abbrev pub add_one : SealingContent → KeptContent → SealingContent
add_one sealing one =
    if length sealing.piece + 1 == most_sealed
    then record { seals = sealing.seals ++ seal_of (sealing.piece ++ one ∷ []); piece = [] }
    else record { seals = sealing.seals; piece = sealing.piece ++ one ∷ [] }

-- if there is one
abbrev pub add_any : SealingContent → Option KeptContent → SealingContent
add_any sealing None = sealing
add_any sealing (Some one) = add_one sealing one

-- a partner's numbers end
abbrev pub end_partner : SealingContent → SealingContent
end_partner sealing =
    record { seals = sealing.seals ++ flat_map seal_of (last_piece sealing.piece); piece = [] }

-- with all that rows keep under a partner's numbers
abbrev pub with_kept : Rows → SealingContent → Numbers → SealingContent
with_kept rows sealing numbers = end_partner (fold add_one sealing (kept_under rows numbers))

-- a text and a reply, as they are read
abbrev pub content_of_kept : Kept → KeptContent
content_of_kept kept =
    record { text = kept.text.items; reply = unwrap_or (option_map (λ reply. string_bytes reply) kept.reply) [] }

-- seals are made so
pub record HoldsSealing (sealing : Sealing) (content : SealingContent) : Type 0 where
  pub seals : sealing.seals.items ≡ content.seals
  pub count : sealing.count ≡ length content.piece
  pub below : length content.piece < most_sealed
  pub holds : Holds256 sealing.hasher (sealed_message content.piece)

-- ---- which seal is that of a number

-- how many seals a partner's numbers have
abbrev pub seals_count : Numbers → ℕ
seals_count numbers = (numbers.to - numbers.from + (most_sealed - 1)) / most_sealed

-- of them the index of that of a number
abbrev pub seal_index : Numbers → ℕ → ℕ
seal_index numbers number = (number - numbers.from - 1) / most_sealed

-- the numbers that have the seal at an index
abbrev pub piece_at : Numbers → (index : ℕ) → Numbers
piece_at numbers index = record {
  partner = numbers.partner;
  from = numbers.from + most_sealed * index;
  to = min (numbers.from + most_sealed * index + most_sealed) numbers.to;
}

-- the seal of a number, with the numbers that have it together
pub record Sealed : Type 0 where
  pub piece : Numbers
  pub seal : List ℕ

-- of the seals of a partner's numbers, and of others after them; none if there are too few
abbrev pub seal_among : Numbers → (seals : List ℕ) → (number : ℕ) → Option Sealed
seal_among numbers seals number =
    if nat_le (seal_bytes * (seal_index numbers number + 1)) (length seals)
    then Some (record {
      piece = piece_at numbers (seal_index numbers number);
      seal = take seal_bytes (drop (seal_bytes * seal_index numbers number) seals);
    })
    else None

-- of the seals of all these numbers; none of a number that is not one of these
abbrev pub seal_at : List Numbers → (seals : List ℕ) → (partner number : ℕ) → Option Sealed
seal_at [] seals partner number = None
seal_at (numbers ∷ closing) seals partner number =
    if is_of partner number numbers then seal_among numbers seals number
    else seal_at closing (drop (seal_bytes * seals_count numbers) seals) partner number

-- what is sealed, with these seals
abbrev pub with_seals : List ℕ → SealedContent → SealedContent
with_seals seals sealed = record sealed { seals = seals }

-- ---- what an archive has to keep

-- the numbers of a segment: of its partner above the last one that was closed before the archive at a place
abbrev pub numbers_by : (place : ℕ) → List Segment → Segment → Numbers
numbers_by place segments segment = record {
  partner = segment.partner;
  from = last_closed (filter (λ (one : Segment). nat_lt one.archive place) segments) segment.partner;
  to = segment.last;
}

-- the numbers that the archive at a place closed
abbrev pub closed_at : (place : ℕ) → List Segment → List Numbers
closed_at place segments =
    map (numbers_by place segments) (filter (λ (segment : Segment). segment.archive == place) segments)

-- what is sealed with the archive at a place, if anything is
abbrev pub sealed_with : (place : ℕ) → List SealedContent → Option SealedContent
sealed_with place sealed = find (λ (one : SealedContent). one.archive == place) sealed

-- the rows keep what this register has sealed with the archive at a place; of one that older programs closed it says nothing
abbrev pub HasSeals : RegisterContent → (place : ℕ) → Rows → Type 0
HasSeals register place rows =
    IfSome (sealed_with place register.sealed) (λ one. seals_of rows (closed_at place register.segments) ≡ one.seals)

-- so of what is sealed together with a number
abbrev pub HasSealOf : RegisterContent → (place partner number : ℕ) → Rows → Type 0
HasSealOf register place partner number rows =
    IfSome (sealed_with place register.sealed) (λ one. (sealed : Sealed)
    × (seal_at (closed_at place register.segments) one.seals partner number ≡ Some sealed)
    × (seals_of rows (sealed.piece ∷ []) ≡ sealed.seal))
