-- A message names no order of a sender's codes exactly if the fault that it is rejected for is of its type, its BGM or its code.
use Rattle.std.specs.{Prelude.{MatchResult, IfOk, IfErr, is_some, is_none}, List.find, Option.{option_and_then, option_map_or}, Result.result_err}
use Rattle.std.proofs.Common.{◌≡◌, Bool, true, false, cond, not, [], ◌∷◌, Option, None, Some, Result, Ok, Err, refl, sym, ap, subst, ◌∙◌, ℕ, ◌+◌, ◌-◌, ◌<◌, ◌≤◌, List, ◌++◌, length, take, drop, slice_range, append_assoc, arith}
use Rattle.std.proofs.lemmas.List.{take_all, length-drop, length-append, append-nil, drop_all}
use Rattle.edi_syntax.specs.{Moments.CivilMoment, Messages.Message}
use Rattle.edi_messages.specs.{Faults.{beginning, order_kind_of, purpose_of, applies, fault_of}, Message.{MessageContent, judged_message, message_of, reading}}
use Rattle.edi_messages.specs.{Types.message_type_of, declared.codes.Codes.Codes, declared.message.MessageFault.MessageFault}
use Rattle.edi_messages.specs.declared.message.MessageFault.TheVariants.{OtherType, NoBgm, Code, Function, NoTransport, NoEquipment, EquipmentCount, TooMany, Memory}
use Rattle.edi_messages.proofs.{SurveyLemmas.purpose_there, WalkLemmas.heading_faultless}
use Rattle.office_explain.specs.{Kinds.{is_of_order, may_send}, Blocks.{AreBlocks, HasOnlyBreaks, IsAllIfCut, IsApart, IsBlock, IsToldFirst}, Told.Explains}
use Rattle.office_explain.specs.{declared.explaining.Block.Block, declared.explaining.Told.Told, declared.explaining.Told.TheVariants.{Cut, Refused, Read}}
use Rattle.office_explain.specs.{declared.partners.Partners.Partners, InOrder.InOrder}

abbrev is_order_fault : Option MessageFault → Bool
is_order_fault fault = option_map_or is_of_order fault false

-- ---- by the faults that apply

-- a later fault is none of the order
later : (b : Bool) (fault : MessageFault) (rest : Option MessageFault) → is_of_order fault ≡ false → is_order_fault rest ≡ false
    → is_order_fault (cond b (Some fault) rest) ≡ false
later true fault rest is others = is
later false fault rest is others = others

others : (codes : Codes) (message : Message)
    → is_order_fault (find (applies codes message) (Function ∷ NoTransport ∷ NoEquipment ∷ EquipmentCount ∷ TooMany ∷ [])) ≡ false
others codes message =
    later (applies codes message Function) Function _ refl
    (later (applies codes message NoTransport) NoTransport _ refl
    (later (applies codes message NoEquipment) NoEquipment _ refl
    (later (applies codes message EquipmentCount) EquipmentCount _ refl
    (later (applies codes message TooMany) TooMany None refl refl))))

first_three : (type begin code : Bool) (rest : Option MessageFault) → (type ≡ true → code ≡ true) → (begin ≡ true → code ≡ true)
    → is_order_fault rest ≡ false
    → is_order_fault (cond type (Some OtherType) (cond begin (Some NoBgm) (cond code (Some Code) rest))) ≡ code
first_three true begin code rest typed begun none = sym (typed refl)
first_three false true code rest typed begun none = sym (begun refl)
first_three false false true rest typed begun none = refl
first_three false false false rest typed begun none = none

untyped : {A B : Type 0} (f : A → Option B) (o : Option A) → is_none o ≡ true → is_none (option_and_then f o) ≡ true
untyped f None e = refl
untyped f (Some x) e = cc

unbegun : {A B C : Type 0} (f : A → B → Option C) (type : Option A) (segment : Option B) → is_none segment ≡ true
    → is_none (option_and_then (λ t. option_and_then (f t) segment) type) ≡ true
unbegun f None segment e = refl
unbegun f (Some t) segment e = untyped (f t) segment e

named : (codes : Codes) (message : Message) → is_order_fault (fault_of codes message) ≡ is_none (order_kind_of codes message)
named codes message =
    first_three (applies codes message OtherType) (applies codes message NoBgm) (applies codes message Code) _
    (untyped _ (message_type_of message.header)) (unbegun _ (message_type_of message.header) (beginning message))
    (others codes message)

-- ---- by what is read

rejected : (codes : Codes) (opened : CivilMoment) (message : Message) (fault : MessageFault) → fault_of codes message ≡ Some fault
    → reading codes opened message ≡ Err fault
rejected codes opened message fault e =
    ap (λ f. judged_message f (option_map_or (λ purpose. Ok (message_of purpose opened message)) (purpose_of codes message) (Err Code))) e

accepted : (codes : Codes) (opened : CivilMoment) (message : Message) → fault_of codes message ≡ None
    → (content : MessageContent) × (reading codes opened message ≡ Ok content)
accepted codes opened message e =
    let found = purpose_there codes message (heading_faultless codes message e) in
    (message_of found.0 opened message, rw (e, found.1) refl)

abbrev IsFault : Result MessageContent MessageFault → MessageFault → Type 0
IsFault read fault = MatchResult read (λ _. fault ≡ Memory) (λ lowest. fault ≡ lowest)

-- what is answered, by the lowest fault that applies
answered : (codes : Codes) (opened : CivilMoment) (message : Message) (fault : MessageFault) (lowest : Option MessageFault)
    → fault_of codes message ≡ lowest → IsFault (reading codes opened message) fault → is_of_order fault ≡ is_order_fault lowest
answered codes opened message fault (Some lowest) e told =
    ap is_of_order (subst (λ read. IsFault read fault) (rejected codes opened message lowest e) told)
answered codes opened message fault None e told =
    ap is_of_order (subst (λ read. IsFault read fault) (accepted codes opened message e).1 told)

faultless : (codes : Codes) (opened : CivilMoment) (message : Message) (content : MessageContent) (lowest : Option MessageFault)
    → fault_of codes message ≡ lowest → reading codes opened message ≡ Ok content → is_order_fault lowest ≡ false
faultless codes opened message content (Some lowest) e is =
    let other = rejected codes opened message lowest e in
    absurd cc
faultless codes opened message content None e is = refl

sent : {A : Type 0} (o : Option A) (b : Bool) → b ≡ is_none o → is_some o ≡ not b
sent None b e = ap not (sym e)
sent (Some x) b e = ap not (sym e)

sent_if_rejected : (codes : Codes) (opened : CivilMoment) (message : Message) (fault : MessageFault)
    → IsFault (reading codes opened message) fault → may_send codes message ≡ not (is_of_order fault)
sent_if_rejected codes opened message fault told =
    sent (order_kind_of codes message) (is_of_order fault)
    (answered codes opened message fault (fault_of codes message) refl told ∙ named codes message)

sent_if_read : (codes : Codes) (opened : CivilMoment) (message : Message) (content : MessageContent)
    → reading codes opened message ≡ Ok content → may_send codes message ≡ true
sent_if_read codes opened message content is =
    sent (order_kind_of codes message) false
    (sym (faultless codes opened message content (fault_of codes message) refl is) ∙ named codes message)

-- by the fault of what is answered, if there is one
abbrev pub sent_by : Option MessageFault → Bool
sent_by None = true
sent_by (Some fault) = not (is_of_order fault)

pub sent_if_answered : {M : Type 0} (content : M → MessageContent) (codes : Codes) (opened : CivilMoment) (message : Message)
    (answer : Result M MessageFault) → IfOk answer (λ read. reading codes opened message ≡ Ok (content read))
    → IfErr answer (λ fault. MatchResult (reading codes opened message) (λ _. fault ≡ Memory) (λ lowest. fault ≡ lowest))
    → may_send codes message ≡ sent_by (result_err answer)
sent_if_answered content codes opened message (Ok read) ok err = sent_if_read codes opened message (content read) ok
sent_if_answered content codes opened message (Err fault) ok err = sent_if_rejected codes opened message fault err

-- ==== BlockLemmas: The blocks of a file, one after the other, and the bytes that they are of.

-- ---- the bytes of a block

rest_is : (file : List ℕ) (before : ℕ) → take (length file - before) (drop before file) ≡ drop before file
rest_is file before = take_all (length file - before) (drop before file) (omega (arith, length-drop before file))

-- the front of what stands from a place on
bytes_at : (file : List ℕ) (before len end : ℕ) → end ≡ before + len
    → take len (take (length file - before) (drop before file)) ≡ slice_range file before end
bytes_at file before len end is =
    ap (λ (t : List ℕ). take len t) (rest_is file before) ∙ ap (λ (n : ℕ). take n (drop before file)) (omega (arith, is))

pub told_at : (partners : Partners) (file : List ℕ) (before len end : ℕ) (told : Told) → end ≡ before + len
    → IsToldFirst partners (take (length file - before) (drop before file)) len told
    → Explains partners (slice_range file before end) told
told_at partners file before len end told is first =
    subst (λ (text : List ℕ). Explains partners text told) (bytes_at file before len end is) first.2

-- what is told apart goes as far as it may
pub not_cut : (told : Told) (end all : ℕ) → IsApart told → IsAllIfCut told end all
not_cut (Cut finding) end all is = absurd is
not_cut (Refused finding) end all is = tt
not_cut (Read reading) end all is = tt

-- what can't be told apart there goes to the end of the file
pub all_at : (file : List ℕ) (before len end : ℕ) (told : Told) → before ≤ length file → end ≡ before + len
    → IsAllIfCut told len (length (take (length file - before) (drop before file))) → IsAllIfCut told end (length file)
all_at file before len end (Cut finding) within is all =
    let rest : len ≡ length (drop before file) = all ∙ ap length (rest_is file before) in
    omega (arith, rest, length-drop before file, within, is)
all_at file before len end (Refused finding) within is all = tt
all_at file before len end (Read reading) within is all = tt

-- ---- block after block

-- The blocks are those of a file up to a place: with those from there on they are all.
abbrev pub GoUpTo : Partners → List ℕ → ℕ → List Block → Type 0
GoUpTo partners file from blocks =
    (rest : List Block) → AreBlocks partners file from (length blocks + 1) rest → AreBlocks partners file 0 1 (blocks ++ rest)

pub goes_on : (partners : Partners) (file : List ℕ) (from : ℕ) (blocks : List Block) (block : Block)
    → GoUpTo partners file from blocks → IsBlock partners file from (length blocks + 1) block
    → GoUpTo partners file block.end (blocks ++ block ∷ [])
goes_on partners file from blocks block goes is rest are =
    let counted : length (blocks ++ block ∷ []) + 1 ≡ length blocks + 1 + 1 =
    ap (λ (n : ℕ). n + 1) (length-append blocks (block ∷ [])) in
    subst (AreBlocks partners file 0 1) (sym (append_assoc blocks (block ∷ []) rest))
    (goes (block ∷ rest) (is, subst (λ (n : ℕ). AreBlocks partners file block.end n rest) counted are))

pub are_all : (partners : Partners) (file : List ℕ) (from : ℕ) (blocks : List Block) → GoUpTo partners file from blocks
    → HasOnlyBreaks file from → AreBlocks partners file 0 1 blocks
are_all partners file from blocks goes none =
    subst (AreBlocks partners file 0 1) (append-nil blocks) (goes [] none)

-- ==== OrderLemmas: One more is told of things in order.

-- What is told is of all things up to those that are left.
abbrev pub UpTo : {A B : Type 0} → (ℕ → A → B → Type 0) → List A → List A → List B → Type 0
UpTo {A} {B} Is all left told =
    (rest : List B) → InOrder Is (length told + 1) left rest → InOrder Is 1 all (told ++ rest)

pub none_yet : {A B : Type 0} (Is : ℕ → A → B → Type 0) (all left : List A) → left ≡ all → UpTo Is all left []
none_yet Is all left is rest are = subst (λ things. InOrder Is 1 things rest) is are

pub one_more : {A B : Type 0} (Is : ℕ → A → B → Type 0) (all before left : List A) (thing : A) (told : List B) (one : B)
    → before ≡ thing ∷ left → UpTo Is all before told → Is (length told + 1) thing one
    → UpTo Is all left (told ++ one ∷ [])
one_more Is all before left thing told one first up is rest are =
    let counted : length (told ++ one ∷ []) + 1 ≡ length told + 1 + 1 =
    ap (λ (n : ℕ). n + 1) (length-append told (one ∷ [])) in
    subst (InOrder Is 1 all) (sym (append_assoc told (one ∷ []) rest))
    (up (one ∷ rest) (subst (λ things. InOrder Is (length told + 1) things (one ∷ rest)) (sym first)
    (is, subst (λ (n : ℕ). InOrder Is n left rest) counted are)))

pub all_told : {A B : Type 0} (Is : ℕ → A → B → Type 0) (all left : List A) (told : List B) → left ≡ []
    → UpTo Is all left told → InOrder Is 1 all told
all_told Is all left told none up =
    subst (InOrder Is 1 all) (append-nil told)
    (up [] (subst (λ things. InOrder Is (length told + 1) things []) (sym none) tt))

pub all_passed : {A B : Type 0} (Is : ℕ → A → B → Type 0) (all : List A) (told : List B) (i : ℕ) → length all ≤ i
    → UpTo Is all (drop i all) told → InOrder Is 1 all told
all_passed Is all told i past up = all_told Is all (drop i all) told (drop_all i all past) up
