-- The rows of a set-up before anything was delivered.
use Rattle.std.specs.Prelude.{ℕ, ◌+◌, List, [], ◌∷◌, ◌++◌, codes, decimal}
use Rattle.edi_messages.specs.{declared.codes.PartnerKind.PartnerKind, declared.code.CodeTable.CodeTable, Codes.table_texts, Purposes.CallContent}
use Rattle.box6346.specs.declared.box_number.BoxNumber.{BoxNumber}
use Rattle.terminal_core.specs.{declared.lines.LineState.LineState, declared.lines.Side.Side, declared.change.Version.Version, Versions.newest}
use Rattle.terminal_core.specs.{declared.change.Version.TheVariants.{First, Second, Third}, Rows.VisitContent}
use Rattle.yard_core.specs.declared.plan.Block.{Block}
use Rattle.office_admission.specs.Setups.{SetupContent}
use Rattle.office_rows.specs.Rows.{Partner, Interchange, PlaceContent, ListingContent, Setting, Rows, no_rows}

-- the accounts by id, from this one on; each waits for its partner's first interchange
abbrev pub partners_from : ℕ → List (List ℕ × PartnerKind) → List Partner
partners_from id [] = []
partners_from id (account ∷ accounts) =
    (record { id = id; code = account.0; kind = account.1; next = 1 }) ∷ partners_from (id + 1) accounts

-- the names under which the codes of document names are kept, in the order of their table
abbrev pub code_names : List (List ℕ)
code_names =
    codes "gate-in" ∷ codes "gate-out" ∷ codes "yard-move" ∷ codes "discharge-list" ∷ codes "load-list"
    ∷ codes "discharge-report" ∷ codes "load-report" ∷ []

abbrev pub setting_row : List ℕ → List ℕ → Setting
setting_row name value = record { name = name; value = value }

abbrev pub interchange_row : ℕ → ℕ → List ℕ → List ℕ → Interchange
interchange_row partner number body reply = record { partner = partner; number = number; body = body; reply = reply }

abbrev pub listing_row : CallContent → Side → BoxNumber → List ℕ → LineState → ListingContent
listing_row call side container port state =
    record { call = call; side = side; container = container; port = port; state = state }

-- each value under its name
abbrev pub settings_named : List (List ℕ) → List (List ℕ) → List Setting
settings_named [] values = []
settings_named (name ∷ names) [] = []
settings_named (name ∷ names) (value ∷ values) = setting_row name value ∷ settings_named names values

abbrev pub code_settings : CodeTable → List Setting
code_settings table = settings_named code_names (table_texts table)

-- a version as the setting of that name has it
abbrev pub version_text : Version → List ℕ
version_text First = codes "1"
version_text Second = codes "2"
version_text Third = codes "3"

-- the version of these tables
abbrev pub tables_version : List ℕ
tables_version = version_text newest

-- the version of the tables, the terminal's code, the limit of visits, and the codes of document names
abbrev pub settings_in : Version → SetupContent → List Setting
settings_in version content =
    setting_row (codes "version") (version_text version) ∷ setting_row (codes "terminal") content.terminal
    ∷ setting_row (codes "visits") (decimal content.visit_limit) ∷ code_settings content.codes

-- the settings of this version
abbrev pub settings_of : SetupContent → List Setting
settings_of content = settings_in newest content

-- ---- rows that are added

abbrev pub with_partners : List Partner → Rows → Rows
with_partners partners rows = record rows { partners = rows.partners ++ partners }

abbrev pub with_settings : List Setting → Rows → Rows
with_settings settings rows = record rows { settings = rows.settings ++ settings }

abbrev pub with_blocks : List Block → Rows → Rows
with_blocks blocks rows = record rows { blocks = rows.blocks ++ blocks }

abbrev pub with_interchanges : List Interchange → Rows → Rows
with_interchanges interchanges rows = record rows { interchanges = rows.interchanges ++ interchanges }

abbrev pub with_visits : List VisitContent → Rows → Rows
with_visits visits rows = record rows { visits = rows.visits ++ visits }

abbrev pub with_places : List PlaceContent → Rows → Rows
with_places places rows = record rows { places = rows.places ++ places }

abbrev pub with_lines : List ListingContent → Rows → Rows
with_lines lines rows = record rows { lines = rows.lines ++ lines }

-- ---- all of them

-- the accounts, the settings and the blocks, and no row else
abbrev pub opening_rows : SetupContent → Rows
opening_rows content =
    record no_rows {
      partners = partners_from 1 content.partners;
      settings = settings_of content;
      blocks = content.blocks;
    }
