-- The journal as a stream: the lines of its texts are cut into just these texts.
use Rattle.std.specs.Prelude.{◌≡◌, ℕ, List, [], All, take, drop, None}
use Rattle.edi_syntax.specs.{Interchange.interchange_of, Faults.fault_of, Cuts.IsInterchange, Streams.AreCuts}
use Rattle.office_replies.specs.Events.{Event}
use Rattle.office_admission.specs.Setups.{SetupContent}
use Rattle.office_parts.specs.Journal.{kept_texts}
use Rattle.office_loading.specs.Pages.{lines_of}

-- a text without a syntax fault, and without CR and LF at its ends
pub record IsFaultless (text : List ℕ) : Type 0 where
  pub no_fault : fault_of text ≡ None
  pub stripped : interchange_of text ≡ text

-- Such a text is one interchange of a stream: it ends with its last byte, and no earlier.
abbrev pub FaultlessIsInterchange : Type 0
FaultlessIsInterchange = (text : List ℕ) → IsFaultless text → IsInterchange text

-- The lines of such texts are cut into these texts, whatever service characters each has, and nothing is left over.
abbrev pub LinesAreCut : Type 0
LinesAreCut = (texts : List (List ℕ)) → All IsFaultless texts → AreCuts (lines_of texts) texts []

-- So are the lines of any part of the journal: `count` texts after the first `from`.
abbrev pub JournalIsCut : Type 0
JournalIsCut =
    (content : SetupContent) (es : List Event) (from count : ℕ) →
    AreCuts (lines_of (take count (drop from (kept_texts content es)))) (take count (drop from (kept_texts content es))) []
