-- The texts of a table of codes.
use Rattle.std.specs.{Prelude.{ℕ, Bool, false, ◌&&◌, ◌||◌, List, [], ◌∷◌, map, length, nat_le, Option, None, Some, if◌then◌else◌}, Borrow.Bor, List.list_all}
use Rattle.std.specs.Str.{bytes_eq}
use Rattle.edi_syntax.specs.Characters.{is_tag_byte}
use Rattle.edi_messages.specs.{declared.code.CodeFault.CodeFault, declared.code.CodeFault.TheVariants.{Form, Twice}}

-- 1 to 3 capitals or digits
abbrev pub is_code : List ℕ → Bool
is_code text = nat_le 1 (length text) && nat_le (length text) 3 && list_all is_tag_byte text

-- the texts that are lent
abbrev pub texts_of : List (Bor (List ℕ)) → List (List ℕ)
texts_of texts = map (λ (text : Bor (List ℕ)). text.now) texts

abbrev pub are_two_same : List ℕ → List ℕ → List ℕ → Bool
are_two_same first second third = bytes_eq first second || bytes_eq first third || bytes_eq second third

-- two codes of CODECO, of COPRAR or of COARRI are the same
abbrev pub is_twice : List (List ℕ) → Bool
is_twice (gate_in ∷ gate_out ∷ yard_move ∷ discharge_list ∷ load_list ∷ discharge_report ∷ load_report ∷ []) =
    are_two_same gate_in gate_out yard_move || bytes_eq discharge_list load_list
    || bytes_eq discharge_report load_report
is_twice texts = false

-- the first fault of seven texts as a table
abbrev pub table_fault : List (List ℕ) → Option CodeFault
table_fault texts = if list_all is_code texts then if is_twice texts then Some Twice else None else Some Form
