-- The service string advice of a text, and the service characters that it names (ISO 9735, service string advice UNA).
use Rattle.std.specs.Prelude.{◌≡◌, ℕ, Bool, true, false, not, ◌&&◌, ◌==◌, nat_le, List, length, get_or, drop, Option, None, Some, refl, if◌then◌else◌}
use Rattle.edi_syntax.specs.{Bytes.{space, colon, plus_sign, question_mark, apostrophe}, Characters.{are_service_characters, begins_with_advice}}
use Rattle.edi_syntax.specs.{Reading.breaks_len, declared.characters.Service.Service}

-- service characters as numbers
pub record ServiceCharacters : Type 0 where
  pub component : ℕ
  pub element : ℕ
  pub release : Option ℕ
  pub terminator : ℕ

abbrev pub characters : Service → ServiceCharacters
characters s = record { component = s.component; element = s.element; release = s.release; terminator = s.terminator }

abbrev pub may_be_used : ServiceCharacters → Bool
may_be_used c = are_service_characters c.component c.element c.release c.terminator

-- The characters that six bytes after `UNA` name: component separator, element separator, decimal mark, release
-- character, a reserved byte, terminator. A space in the release place says that none is used.
abbrev pub advised_characters : List ℕ → ServiceCharacters
advised_characters text = record {
  component = get_or text 3 0;
  element = get_or text 4 0;
  release = if get_or text 6 0 == space then None else Some (get_or text 6 0);
  terminator = get_or text 8 0;
}

-- `:`, `+`, `?` and `'`
abbrev pub default_service : Service
default_service = record {
  component = colon;
  element = plus_sign;
  release = Some question_mark;
  terminator = apostrophe;
  distinct = refl;
}

abbrev pub service_with : (c : ServiceCharacters) (usable : Bool) → may_be_used c ≡ usable → Service
service_with c true h =
    record {
      component = c.component;
      element = c.element;
      release = c.release;
      terminator = c.terminator;
      distinct = h;
    }
service_with c false h = default_service

-- the text has a whole advice
abbrev pub has_advice : List ℕ → Bool
has_advice text = begins_with_advice text && nat_le 9 (length text)

-- The service characters of a text: those of its advice, or the defaults if it has none that may be used.
abbrev pub service_at : List ℕ → Service
service_at text =
    if has_advice text then service_with (advised_characters text) (may_be_used (advised_characters text)) refl
    else default_service

-- The advice is cut short, or its characters may not be used.
abbrev pub has_bad_advice : List ℕ → Bool
has_bad_advice text = begins_with_advice text && not (nat_le 9 (length text) && may_be_used (advised_characters text))

abbrev pub advice_len : List ℕ → ℕ
advice_len text = if begins_with_advice text then 9 else 0

-- without the CR and LF at the front
abbrev pub without_breaks : List ℕ → List ℕ
without_breaks bytes = drop (breaks_len bytes) bytes

-- what stands after the advice and the line breaks after it, if there is one
abbrev pub behind_advice : List ℕ → List ℕ
behind_advice text = if begins_with_advice text then without_breaks (drop 9 text) else text
