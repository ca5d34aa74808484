use Rattle.std.specs.List.{find}
use Rattle.std.proofs.Common.{◌≡◌, ◌∙◌, ℕ, ◌+◌, ◌<◌, suc, Bool, true, false, cond, List, length, drop, get_or, Some, ap, sym, arith, drop-cons}
use Rattle.edi_syntax.specs.{Frames.message, Messages.Message}
use Rattle.edi_messages.specs.{declared.code.CodeTable.CodeTable, declared.codes.Codes.Codes, declared.codes.PartnerKind.PartnerKind}
use Rattle.edi_messages.specs.declared.codes.PartnerKind.TheVariants.{Gate}
use Rattle.office_explain.{specs.Kinds.{codes_of, kind_for, kinds, may_send}, proofs.SenderLemmas.codes_are}
use Rattle.office_explain.proofs.partners.kind_for.Goals as goal

found_at : {A : Type 0} (p : A → Bool) (xs : List A) (i : ℕ) (d : A) → i < length xs
    → find p (drop i xs) ≡ cond (p (get_or xs i d)) (Some (get_or xs i d)) (find p (drop (i + 1) xs))
found_at p xs i d low =
    let next : suc i ≡ i + 1 = omega arith in
    ap (find p) (drop-cons xs i d low)
    ∙ ap (λ k. cond (p (get_or xs i d)) (Some (get_or xs i d)) (find p (drop k xs))) next

-- a kind that was asked for
asked : (table : CodeTable) (message : Message) (codes : Codes) (kind : PartnerKind) (answer is : Bool) → codes.kind ≡ kind
    → codes.table ≡ table → answer ≡ may_send codes message → answer ≡ is → may_send (codes_of table kind) message ≡ is
asked table message codes kind answer is same_kind same_table given was =
    ap (λ k. may_send k message) (sym (codes_are codes table kind same_kind same_table)) ∙ sym given ∙ was

next_kind : (table : CodeTable) (message : Message) (i : ℕ) (is : Bool) → i < length kinds
    → kind_for table message ≡ find (λ kind. may_send (codes_of table kind) message) (drop i kinds)
    → may_send (codes_of table (get_or kinds i Gate)) message ≡ is
    → kind_for table message ≡ cond is (Some (get_or kinds i Gate))
    (find (λ kind. may_send (codes_of table kind) message) (drop (i + 1) kinds))
next_kind table message i is low left sends =
    let p : PartnerKind → Bool = λ kind. may_send (codes_of table kind) message in
    left ∙ found_at p kinds i Gate low
    ∙ ap (λ b. cond b (Some (get_or kinds i Gate)) (find p (drop (i + 1) kinds))) sends

pub returns-then-may_send : goal.returns-then-may_send
returns-then-may_send c =
    let i = c.loop-kind.kind-index in
    sym (next_kind c.args.table.now (message c.args.frame.now) i true c.loop-kind-test.true c.loop-kind.invariant
    (asked c.args.table.now (message c.args.frame.now) c.for_kind.result (get_or kinds i Gate) c.may_send.result true
    c.for_kind.ensures.kind c.for_kind.ensures.table c.may_send.ensures c.if-may_send.true))

pub loop-kind-preserved : goal.loop-kind-preserved
loop-kind-preserved c =
    let i = c.loop-kind.kind-index in
    next_kind c.args.table.now (message c.args.frame.now) i false c.loop-kind-test.true c.loop-kind.invariant
    (asked c.args.table.now (message c.args.frame.now) c.for_kind.result (get_or kinds i Gate) c.may_send.result false
    c.for_kind.ensures.kind c.for_kind.ensures.table c.may_send.ensures c.if-may_send.false)
