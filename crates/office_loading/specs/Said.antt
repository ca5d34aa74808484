-- What the settings say.
use Rattle.std.specs.Prelude.{◌≡◌, ℕ, ◌≤◌, List, [], ◌∷◌, map, codes, string_bytes, None, IsTrue}
use Rattle.edi_messages.specs.{CodeText.table_fault, Codes.table_texts}
use Rattle.terminal_core.specs.{declared.restoring.RestoreFault.RestoreFault, declared.restoring.RestoreFault.TheVariants.{Unsound, Memory}}
use Rattle.office_admission.specs.{Setups.SetupContent, Given.is_party_code, Limits.most_visits}
use Rattle.office_rows.specs.{Rows.Setting, Office.settings_by_name}
use Rattle.office_loading.specs.declared.settings.Settings.{Settings}

-- the names of the ten settings, in their order
abbrev pub setting_names : List (List ℕ)
setting_names =
    codes "discharge-list" ∷ codes "discharge-report" ∷ codes "gate-in" ∷ codes "gate-out" ∷ codes "load-list"
    ∷ codes "load-report"
    ∷ codes "terminal" ∷ codes "version" ∷ codes "visits" ∷ codes "yard-move" ∷ []

abbrev pub names_of : List Setting → List (List ℕ)
names_of rows = map (λ (row : Setting). row.name) rows

abbrev pub values_of : List Setting → List (List ℕ)
values_of rows = map (λ (row : Setting). row.value) rows

-- of ten values by their names those of the codes, in the order of their table
abbrev pub code_values : List (List ℕ) → List (List ℕ)
code_values (discharge_list ∷ discharge_report ∷ gate_in ∷ gate_out ∷ load_list ∷ load_report ∷ terminal ∷ version
    ∷ visits ∷ yard_move ∷ []) =
    gate_in ∷ gate_out ∷ yard_move ∷ discharge_list ∷ load_list ∷ discharge_report ∷ load_report ∷ []
code_values others = []

-- a set-up with these settings, and nothing else
abbrev pub set_up_with : Settings → SetupContent
set_up_with settings = record {
  terminal = string_bytes settings.terminal;
  codes = settings.codes;
  partners = [];
  blocks = [];
  visit_limit = settings.visit_limit;
}

-- the rows are the settings of the set-up, which have their forms
pub record AreSettings (rows : List Setting) (content : SetupContent) : Type 0 where
  pub terminal : IsTrue (is_party_code content.terminal)
  pub codes : table_fault (table_texts content.codes) ≡ None
  pub limit : (1 ≤ content.visit_limit) × (content.visit_limit ≤ most_visits)
  pub are : rows ≡ settings_by_name content

-- why settings are not read: they are those of no set-up, or memory was refused
abbrev pub RefusesSettings : List Setting → RestoreFault → Type 0
RefusesSettings rows Unsound = (content : SetupContent) → ¬ AreSettings rows content
RefusesSettings rows Memory = Unit {0}
