-- One walk over the segments of a message: what is found in those that are passed, and what in those that are left.
use Rattle.std.specs.{Prelude.{filter, Result, Ok, Err, IfSome, IsSomeAnd}, List.find, Option.{option_or, option_map_or}, Str.bytes_eq}
use Rattle.std.proofs.Common.{Vec, Global, ◌≡◌, ℕ, ◌&&◌, ◌||◌, ◌+◌, ◌≤◌, Bool, true, false, cond, List, [], ◌∷◌, ◌++◌, length, map, codes, None, Some, Option, refl, sym, ap, ◌∙◌, append_assoc, arith}
use Rattle.std.proofs.{lemmas.Bool.{and_parts, true≢false}, lemmas.List.append-nil}
use Rattle.edi_syntax.specs.{Moments.CivilMoment, Text.{Content, has_tag, component_of}, Messages.Message}
use Rattle.edi_messages.specs.{Faults.{is_container, applies, fault_of, purpose_of}, Owned.line_content, declared.line.Line.Line, declared.codes.Codes.Codes}
use Rattle.edi_messages.specs.Message.{LineContent, MessageContent, is_container_group, line_of, lines_of, message_of, judged_message, reading}
use Rattle.edi_messages.{specs.Parts.{EquipmentGroup, is_equipment, is_qualified, heading, before_end, ends_group, groups_of}, proofs.SurveyLemmas.count_step}
use Rattle.edi_messages.specs.{Purposes.{Purpose, kind_of, call_of}, Walks.{counted_on, from_end, heading_fault_of, equipment_fault_of}}
use Rattle.edi_messages.specs.declared.message.MessageFault.{MessageFault}
use Rattle.edi_messages.specs.declared.message.MessageFault.TheVariants.{OtherType, NoBgm, Code, Function, NoTransport}

-- ---- what a segment is that is passed

left_no : (a b : Bool) → (a || b) ≡ false → a ≡ false
left_no false b h = refl
left_no true b h = h

right_no : (a b : Bool) → (a || b) ≡ false → b ≡ false
right_no false b h = h
right_no true b h = absurd (true≢false h)

and_no : (a b : Bool) → a ≡ false → (a && b) ≡ false
and_no a b e = rw e refl

-- a segment that ends no group is no equipment, and no control total
pub no_equipment : (segment : Content) → ends_group segment ≡ false → is_equipment segment ≡ false
no_equipment segment inside = left_no (is_equipment segment) (has_tag (codes "CNT") segment) inside

pub no_container : (segment : Content) → is_equipment segment ≡ false → is_container segment ≡ false
no_container segment other = and_no (is_equipment segment) (bytes_eq (component_of segment 1 1) (codes "CN")) other

pub no_control : (segment : Content) → ends_group segment ≡ false → is_qualified (codes "CNT") (codes "16") segment ≡ false
no_control segment inside =
    and_no (has_tag (codes "CNT") segment) (bytes_eq (component_of segment 1 1) (codes "16"))
    (right_no (is_equipment segment) (has_tag (codes "CNT") segment) inside)

-- ---- one segment more

pub heading_goes_on : (segment : Content) (segments rest : List Content) →
    is_equipment segment ≡ false → segments ≡ segment ∷ rest → heading segments ≡ segment ∷ heading rest
heading_goes_on segment segments rest other s = rw (s, other) refl

pub uncounted : (n : ℕ) (counted : Content → Bool) (segment : Content) (segments rest : List Content) →
    counted segment ≡ false → segments ≡ segment ∷ rest → counted_on n counted segments ≡ counted_on n counted rest
uncounted n counted segment segments rest none s =
    count_step n 0 counted segment segments rest (rw none refl) s ∙ ap (λ (m : ℕ). counted_on m counted rest) (omega arith)

unfound : (sought : Content → Bool) (segment : Content) (rest : List Content) →
    sought segment ≡ false → find sought (segment ∷ rest) ≡ find sought rest
unfound sought segment rest none = rw none refl

pub groups_after : (segment : Content) (segments rest : List Content) →
    is_equipment segment ≡ false → segments ≡ segment ∷ rest → groups_of segments ≡ groups_of rest
groups_after segment segments rest other s = rw (s, other) refl

pub goes_on_to_end : (segment : Content) (segments rest : List Content) →
    ends_group segment ≡ false → segments ≡ segment ∷ rest → from_end segments ≡ from_end rest
goes_on_to_end segment segments rest inside s = rw (s, inside) refl

-- ---- a group that is passed

pub counted_behind : (n : ℕ) (counted : Content → Bool) →
    ((segment : Content) → ends_group segment ≡ false → counted segment ≡ false) → (segments : List Content) →
    counted_on n counted (from_end segments) ≡ counted_on n counted segments
counted_behind n counted none [] = refl
counted_behind n counted none (segment ∷ segments) = by_test (ends_group segment) refl (counted_behind n counted none segments)
  where
    by_test : (a : Bool) → ends_group segment ≡ a →
        counted_on n counted (from_end segments) ≡ counted_on n counted segments →
        counted_on n counted (cond a (segment ∷ segments) (from_end segments)) ≡ counted_on n counted (segment ∷ segments)
    by_test true e same = refl
    by_test false e same = same ∙ sym (uncounted n counted segment (segment ∷ segments) segments (none segment e) refl)

pub found_behind : (sought : Content → Bool) →
    ((segment : Content) → ends_group segment ≡ false → sought segment ≡ false) → (segments : List Content) →
    find sought (from_end segments) ≡ find sought segments
found_behind sought none [] = refl
found_behind sought none (segment ∷ segments) = by_test (ends_group segment) refl (found_behind sought none segments)
  where
    by_test : (a : Bool) → ends_group segment ≡ a → find sought (from_end segments) ≡ find sought segments →
        find sought (cond a (segment ∷ segments) (from_end segments)) ≡ find sought (segment ∷ segments)
    by_test true e same = refl
    by_test false e same = same ∙ sym (unfound sought segment segments (none segment e))

pub groups_behind : (segments : List Content) → groups_of (from_end segments) ≡ groups_of segments
groups_behind [] = refl
groups_behind (segment ∷ segments) = by_test (ends_group segment) refl (groups_behind segments)
  where
    by_test : (a : Bool) → ends_group segment ≡ a → groups_of (from_end segments) ≡ groups_of segments →
        groups_of (cond a (segment ∷ segments) (from_end segments)) ≡ groups_of (segment ∷ segments)
    by_test true e same = refl
    by_test false e same = same ∙ sym (groups_after segment (segment ∷ segments) segments (no_equipment segment e) refl)

pub no_more_behind : (segments : List Content) → length (from_end segments) ≤ length segments
no_more_behind [] = omega arith
no_more_behind (segment ∷ segments) = by_test (ends_group segment) (no_more_behind segments)
  where
    by_test : (a : Bool) → length (from_end segments) ≤ length segments →
        length (cond a (segment ∷ segments) (from_end segments)) ≤ length (segment ∷ segments)
    by_test true few = omega arith
    by_test false few = omega (arith, few)

-- ---- the lines

pub lines_without : (purpose : Purpose) (opened : CivilMoment) (segment : Content) (segments rest : List Content) →
    is_container segment ≡ false → segments ≡ segment ∷ rest → lines_of purpose opened segments ≡ lines_of purpose opened rest
lines_without purpose opened segment segments rest none s = rw s (by_test (is_equipment segment))
  where
    of_group : (a : Bool) → a ≡ false →
        map (line_of purpose opened) (cond a (record { equipment = segment; details = before_end rest } ∷ filter is_container_group (groups_of rest)) (filter is_container_group (groups_of rest)))
        ≡ lines_of purpose opened rest
    of_group a e = rw e refl

    by_test : (a : Bool) →
        map (line_of purpose opened) (filter is_container_group (cond a (record { equipment = segment; details = before_end rest } ∷ groups_of rest) (groups_of rest)))
        ≡ lines_of purpose opened rest
    by_test true = of_group (is_container segment) none
    by_test false = refl

pub lines_with : (purpose : Purpose) (opened : CivilMoment) (segment : Content) (segments rest : List Content) →
    is_container segment ≡ true → segments ≡ segment ∷ rest →
    lines_of purpose opened segments
    ≡ line_of purpose opened (record { equipment = segment; details = before_end rest }) ∷ lines_of purpose opened rest
lines_with purpose opened segment segments rest is s =
    rw s (by_test (is_equipment segment) (and_parts (is_equipment segment) (bytes_eq (component_of segment 1 1) (codes "CN")) is).0)
  where
    of_group : (a : Bool) → a ≡ true →
        map (line_of purpose opened) (cond a (record { equipment = segment; details = before_end rest } ∷ filter is_container_group (groups_of rest)) (filter is_container_group (groups_of rest)))
        ≡ line_of purpose opened (record { equipment = segment; details = before_end rest }) ∷ lines_of purpose opened rest
    of_group a e = rw e refl

    by_test : (a : Bool) → a ≡ true →
        map (line_of purpose opened) (filter is_container_group (cond a (record { equipment = segment; details = before_end rest } ∷ groups_of rest) (groups_of rest)))
        ≡ line_of purpose opened (record { equipment = segment; details = before_end rest }) ∷ lines_of purpose opened rest
    by_test a e = rw e (of_group (is_container segment) is)

pub lines_same : (purpose : Purpose) (opened : CivilMoment) (segments others : List Content) →
    groups_of segments ≡ groups_of others → lines_of purpose opened segments ≡ lines_of purpose opened others
lines_same purpose opened segments others same =
    ap (λ (groups : List EquipmentGroup). map (line_of purpose opened) (filter is_container_group groups)) same

abbrev pub line_contents : Vec Line Global → List LineContent
line_contents lines = map line_content lines.items

-- the line of one group more, after those that were kept
pub lines_more : {X : Type 0} (view : X → List LineContent) (kept more : Option X) (all left rest : List LineContent) (line : LineContent) →
    IfSome kept (λ old. all ≡ view old ++ left) →
    IfSome more (λ new. IsSomeAnd kept (λ old. view new ≡ view old ++ line ∷ [])) → left ≡ line ∷ rest →
    IfSome more (λ new. all ≡ view new ++ rest)
lines_more view kept None all left rest line before added e = tt
lines_more view None (Some new) all left rest line before added e = absurd added
lines_more view (Some old) (Some new) all left rest line before added e =
    before ∙ ap (λ (lines : List LineContent). view old ++ lines) e
    ∙ sym (append_assoc (view old) (line ∷ []) rest) ∙ ap (λ (lines : List LineContent). lines ++ rest) (sym added)

-- all lines, where none is left
pub lines_all : {X : Type 0} (view : X → List LineContent) (kept : Option X) (all left : List LineContent) →
    IfSome kept (λ old. all ≡ view old ++ left) → left ≡ [] → IfSome kept (λ old. view old ≡ all)
lines_all view None all left before e = tt
lines_all view (Some old) all left before e =
    sym (before ∙ ap (λ (lines : List LineContent). view old ++ lines) e ∙ append-nil (view old))

-- the same lines are left
pub lines_still : {X : Type 0} (view : X → List LineContent) (kept : Option X) (all left rest : List LineContent) →
    IfSome kept (λ old. all ≡ view old ++ left) → left ≡ rest → IfSome kept (λ old. all ≡ view old ++ rest)
lines_still view kept all left rest before e = rw (← e) before

-- ---- the lowest fault is one of the heading, or else one of the equipments

in_turn : (a b c d e : Bool) (rest : Option MessageFault) →
    cond a (Some OtherType) (cond b (Some NoBgm) (cond c (Some Code) (cond d (Some Function) (cond e (Some NoTransport) rest))))
    ≡ option_or (cond a (Some OtherType) (cond b (Some NoBgm) (cond c (Some Code) (cond d (Some Function) (cond e (Some NoTransport) None))))) rest
in_turn true b c d e rest = refl
in_turn false true c d e rest = refl
in_turn false false true d e rest = refl
in_turn false false false true e rest = refl
in_turn false false false false true rest = refl
in_turn false false false false false rest = refl

fault_in_turn : (codes : Codes) (message : Message) →
    fault_of codes message ≡ option_or (heading_fault_of codes message) (equipment_fault_of message)
fault_in_turn codes message =
    in_turn (applies codes message OtherType) (applies codes message NoBgm) (applies codes message Code)
    (applies codes message Function) (applies codes message NoTransport) (equipment_fault_of message)

first_none : (first second : Option MessageFault) → option_or first second ≡ None → first ≡ None
first_none None second e = refl
first_none (Some fault) second e = e

pub heading_faultless : (codes : Codes) (message : Message) → fault_of codes message ≡ None → heading_fault_of codes message ≡ None
heading_faultless codes message none =
    first_none (heading_fault_of codes message) (equipment_fault_of message) (sym (fault_in_turn codes message) ∙ none)

abbrev read_with : CivilMoment → Message → Option Purpose → Result MessageContent MessageFault
read_with opened message found = option_map_or (λ purpose. Ok (message_of purpose opened message)) found (Err Code)

judged : (codes : Codes) (opened : CivilMoment) (message : Message) (fault : Option MessageFault) → fault_of codes message ≡ fault →
    reading codes opened message ≡ judged_message fault (read_with opened message (purpose_of codes message))
judged codes opened message fault e =
    ap (λ (lowest : Option MessageFault). judged_message lowest (read_with opened message (purpose_of codes message))) e

pub rejected_by_heading : (codes : Codes) (opened : CivilMoment) (message : Message) (fault : MessageFault) →
    heading_fault_of codes message ≡ Some fault → reading codes opened message ≡ Err fault
rejected_by_heading codes opened message fault e =
    judged codes opened message (Some fault)
    (fault_in_turn codes message ∙ ap (λ (first : Option MessageFault). option_or first (equipment_fault_of message)) e)

both : (codes : Codes) (message : Message) (fault : Option MessageFault) → heading_fault_of codes message ≡ None →
    equipment_fault_of message ≡ fault → fault_of codes message ≡ fault
both codes message fault none e =
    fault_in_turn codes message ∙ ap (λ (first : Option MessageFault). option_or first (equipment_fault_of message)) none ∙ e

pub rejected_by_equipment : (codes : Codes) (opened : CivilMoment) (message : Message) (fault : MessageFault) →
    heading_fault_of codes message ≡ None → equipment_fault_of message ≡ Some fault → reading codes opened message ≡ Err fault
rejected_by_equipment codes opened message fault none e = judged codes opened message (Some fault) (both codes message (Some fault) none e)

pub read_for : (codes : Codes) (opened : CivilMoment) (message : Message) (purpose : Purpose) →
    heading_fault_of codes message ≡ None → equipment_fault_of message ≡ None → purpose_of codes message ≡ Some purpose →
    reading codes opened message ≡ Ok (message_of purpose opened message)
read_for codes opened message purpose none faultless e =
    judged codes opened message None (both codes message None none faultless)
    ∙ ap (read_with opened message) e

-- ---- a message with the lines that were kept

pub built_of : {X : Type 0} (view : X → List LineContent) (kept : Option X) (built : MessageContent) (purpose : Purpose) (replaces is : Bool) (lines all : List LineContent) →
    IfSome kept (λ some. view some ≡ lines) → lines ≡ all → replaces ≡ is →
    IsSomeAnd kept (λ some. built ≡ record { kind = kind_of purpose; call = call_of purpose; replaces = replaces; lines = view some }) →
    built ≡ record { kind = kind_of purpose; call = call_of purpose; replaces = is; lines = all }
built_of view None built purpose replaces is lines all same more told made = absurd made
built_of view (Some some) built purpose replaces is lines all same more told made = rw (← more, ← same, ← told) made
