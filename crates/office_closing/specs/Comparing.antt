-- Whether an archive keeps what is to go from the store.
use Rattle.std.specs.{Prelude.{◌≡◌, ℕ, true, List, Option, None, Some, string_bytes}, Option.option_map}
use Rattle.office_rows.specs.Rows.{Rows}
use Rattle.office_history.specs.{After.reply_in, Cascade.text_in}
use Rattle.office_tables.specs.{Answers.HasUnfitReply, Faults.IsOfStoreOr, declared.interchanges.Kept.Kept, declared.table_fault.TableFault.TableFault}
use Rattle.office_closing.specs.{Deleting.is_among, declared.comparing.Compared.Compared, declared.comparing.Difference.Difference, declared.faults.File.File}
use Rattle.office_closing.specs.{declared.faults.FileFault.FileFault, declared.comparing.Numbers.Numbers}
use Rattle.office_closing.specs.declared.comparing.Compared.TheVariants as compared
use Rattle.office_closing.specs.declared.faults.File.TheVariants as file

-- ---- what is kept

-- the text of what is kept, and its reply: none while it waits
abbrev pub kept_text : Option Kept → Option (List ℕ)
kept_text kept = option_map (λ (k : Kept). k.text.items) kept

abbrev pub kept_reply : Option Kept → Option (List ℕ)
kept_reply None = None
kept_reply (Some kept) = option_map (λ reply. string_bytes reply) kept.reply

-- both keep the same text and the same reply
pub record IsSameKept (own copy : Option Kept) : Type 0 where
  pub text : kept_text copy ≡ kept_text own
  pub reply : kept_reply copy ≡ kept_reply own

-- ---- the rows of a store and of a copy

-- both tell the same text and the same reply under the partner's number
pub record IsToldAlike (partner number : ℕ) (own copy : Rows) : Type 0 where
  pub text : text_in copy partner number ≡ text_in own partner number
  pub reply : reply_in copy partner number ≡ reply_in own partner number

-- each of these numbers is told alike; or this is one that is not
abbrev pub IsComparedAs : List Numbers → Rows → Rows → Option Difference → Type 0
IsComparedAs closing own copy None =
    (partner number : ℕ) → is_among closing partner number ≡ true → IsToldAlike partner number own copy
IsComparedAs closing own copy (Some difference) =
    (is_among closing difference.partner difference.number ≡ true)
    × ¬ IsToldAlike difference.partner difference.number own copy

-- the number that differs, if one does, and else the seals
abbrev pub difference_in : Compared → Option Difference
difference_in (compared.Alike seals) = None
difference_in (compared.Differs difference) = Some difference

abbrev pub seals_in : Compared → Option (List ℕ)
seals_in (compared.Alike seals) = Some seals.items
seals_in (compared.Differs difference) = None

-- one of these numbers has a reply that is no text
pub record HasUnfitAmong (closing : List Numbers) (rows : Rows) : Type 0 where
  pub partner : ℕ
  pub number : ℕ
  pub among : is_among closing partner number ≡ true
  pub unfit : HasUnfitReply partner number rows

-- what a fault says of the file that it names; only the store and the archive are compared
abbrev pub IsOfFile : (own copy : Type 0) → File → TableFault → Type 0
IsOfFile own copy file.Store fault = IsOfStoreOr own fault
IsOfFile own copy file.Archive fault = IsOfStoreOr copy fault
IsOfFile own copy file.Register fault = ⊥
IsOfFile own copy file.ArchiveRegister fault = ⊥

abbrev pub IsOfEither : (own copy : Type 0) → FileFault → Type 0
IsOfEither own copy fault = IsOfFile own copy fault.file fault.fault
