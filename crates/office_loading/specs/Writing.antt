-- What writing texts leaves of them.
use Rattle.std.specs.{Prelude.{◌≡◌, ◌++◌, ℕ, Bool, true, false, List, [], ◌∷◌, Option}, Io.KnownBytes.{Appends, Keeps}}
use Rattle.edi_syntax.specs.Bytes.{line_feed}
use Rattle.sqlite.specs.{declared.types.Value.TheVariants.Blob, Order.{Row, column}}
use Rattle.office_loading.specs.{Texts.{AreTextsAfter, has_reached}, Pages.lines_of, declared.writing.Written.Written}
use Rattle.office_loading.specs.declared.writing.Written.TheVariants.{Fewer, All, Failed}

-- the texts after a number are written, an LF after each
pub record AreWritten (from : ℕ) (stored : List Row) (old new : Option (List ℕ)) : Type 0 where
  pub texts : List (List ℕ)
  pub after : AreTextsAfter from stored texts
  pub appended : Appends old new (lines_of texts)

-- All texts after a number were written, or there are fewer than that and nothing was. Where the writer failed nothing is
-- said of what is written.
abbrev pub WritesTexts : ℕ → List Row → Option (List ℕ) → Option (List ℕ) → Written → Type 0
WritesTexts from stored old new Fewer = (has_reached from stored ≡ false) × Appends old new []
WritesTexts from stored old new All = (has_reached from stored ≡ true) × AreWritten from stored old new
WritesTexts from stored old new Failed = Unit {0}

-- the writer has failed exactly if that is said, and not before
abbrev pub LeavesPort : Bool → Bool → Written → Type 0
LeavesPort failed failed' Fewer = failed' ≡ failed
LeavesPort failed failed' All = failed' ≡ failed
LeavesPort failed failed' Failed = failed' ≡ true

-- what was written stays, and is flushed, or the writer failed
abbrev pub Flushes : Option (List ℕ) → Option (List ℕ) → (failed failed' flushed' : Bool) → Written → Type 0
Flushes old new failed failed' flushed' All = Keeps old new × (failed' ≡ failed) × (flushed' ≡ true)
Flushes old new failed failed' flushed' Failed = failed' ≡ true
Flushes old new failed failed' flushed' Fewer = ⊥

-- ---- the rows of one query

-- some texts after a number were written and there is no other; or there is none, and nothing was written
abbrev pub WritesAll : ℕ → List Row → Option (List ℕ) → Option (List ℕ) → Written → Type 0
WritesAll from stored old new Fewer = AreTextsAfter from stored [] × Appends old new []
WritesAll from stored old new All = (has_reached from stored ≡ true) × AreWritten from stored old new
WritesAll from stored old new Failed = Unit {0}

abbrev pub written_if : Bool → Written
written_if true = All
written_if false = Fewer

-- the text of a row was written and an LF after it, or the writer failed
abbrev pub WritesRow : Row → Option (List ℕ) → Option (List ℕ) → (failed failed' : Bool) → (taken : Bool) → Type 0
WritesRow row old new failed failed' true =
    (text : List ℕ) × (column row 0 ≡ Blob text) × Appends old new (text ++ line_feed ∷ []) × (failed' ≡ failed)
WritesRow row old new failed failed' false = failed' ≡ true
