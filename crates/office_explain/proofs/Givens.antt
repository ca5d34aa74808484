-- The set-up that files say is one that set-up files can give.
use Rattle.std.specs.{List.{filter_map, list_all, list_any, sum_by}, Prelude.slice_get, Option.{option_map, option_map_or}, List.Sorted.IsPermutation}
use Rattle.std.{specs.{Char.is_ascii_uppercase, Str.bytes_eq}, proofs.lemmas.List.{take_more, take_all, length-map, map-append, take-map, drop-map}}
use Rattle.std.proofs.Common.{◌≡◌, ℕ, Bool, true, false, ◌&&◌, ◌+◌, ◌-◌, ◌<◌, ◌≤◌, zero, suc, List, [], ◌∷◌, ◌++◌, length, take, drop, map, get_or, Option, Some, None, refl, sym, ap, ap₂, ◌∙◌, arith, All, ◌≢◌, not, ◌||◌, ◌==◌, cond, IsTrue, inl, inr, nat_le, codes, string_bytes}
use Rattle.std.proofs.{lemmas.List.Elements.{filter_map-append, All-nil, All-cons, All-tail, All-append}, lemmas.List.Folds.list_all-map}
use Rattle.std.proofs.{lemmas.Option.same_Some, lemmas.Bool.{and_parts, not-true, leb-true, cases_eq, ne_eqb, eq-eqb}, lemmas.Slice.Eq.bytes_eq-Decides}
use Rattle.std.proofs.{lemmas.List.Sums.sum_by-cons, lemmas.List.Sorted.{All-permutation, sum_by-IsPermutation}}
use Rattle.edi_messages.specs.{CodeText.table_fault, declared.codes.PartnerKind.PartnerKind}
use Rattle.edi_syntax.specs.Numbers.{number_of}
use Rattle.yard_core.specs.{declared.plan.Block.Block, declared.plan.PlanFault.PlanFault, declared.plan.PlanFault.TheVariants.{Blocks, Letter, Twice, Size}}
use Rattle.yard_core.specs.Plan.{IsPlan, IsFaulty, AreApart, IsSized}
use Rattle.office_admission.specs.{Given.{IsGiven, AreDistinct, is_party_code}, Kinds.kind_named, Limits.most_partners, Setups.{SetupContent, setup_content}}
use Rattle.office_admission.specs.declared.setup.Setup.{Setup}
use Rattle.office_explain.specs.{Entries.{section, Record, NamedValue, entry_of}, PartnerFaults.{fault_after, fault_of_first, fault_of_partner}}
use Rattle.office_explain.specs.Said.{SaysSetup, are_apart, names_of, partner_said, terminal_said, limit_said, limit_in}
use Rattle.office_explain.specs.declared.partner_faults.PartnerFault.{PartnerFault}

-- ==== Lists: Lists that a loop makes of another.

pub one_more : {A : Type 0} (xs : List A) (i : ℕ) (d x : A) → i < length xs → x ≡ get_or xs i d → take (i + 1) xs ≡ take i xs ++ x ∷ []
one_more xs i d x low at = take_more xs i d low ∙ ap (λ z. take i xs ++ z ∷ []) (sym at)

module _ {A B C : Type 0} (g : A → B) (f : B → Option C) where
  pub none_said : (xs : List A) (i : ℕ) (d x : A) → i < length xs → x ≡ get_or xs i d → f (g x) ≡ None → (cs : List C) → ¬ (map f (map g xs) ≡ map Some cs)
  none_said [] i d x low at here cs same = absurd (omega arith)
  none_said (y ∷ xs) zero d x low at here [] same = absurd (cc)
  none_said (y ∷ xs) zero d x low at here (c ∷ cs) same =
      let e : f (g x) ≡ f (g y) = ap (λ z. f (g z)) at in
      let k : f (g y) ≡ Some c = cc in absurd (cc)
  none_said (y ∷ xs) (suc i) d x low at here [] same = absurd (cc)
  none_said (y ∷ xs) (suc i) d x low at here (c ∷ cs) same =
      let k : map f (map g xs) ≡ map Some cs = cc in none_said xs i d x (omega arith) at here cs k

  -- those that have one
  pub kept_more : (xs : List A) (i : ℕ) (d x : A) (cs : List C) (c : C) → i < length xs → x ≡ get_or xs i d → f (g x) ≡ Some c → cs ≡ filter_map f (map g (take i xs))
      → cs ++ c ∷ [] ≡ filter_map f (map g (take (i + 1) xs))
  kept_more xs i d x cs c low at here before =
      ap (λ l. l ++ c ∷ []) before ∙ ap (λ l. filter_map f (map g (take i xs)) ++ l) (sym (one_of c here)) ∙ sym (filter_map-append f (map g (take i xs)) (g x ∷ []))
      ∙ ap (filter_map f) (sym (map-append g (take i xs) (x ∷ []))) ∙ ap (λ l. filter_map f (map g l)) (sym (one_more xs i d x low at)) where
        one_of : (c : C) → f (g x) ≡ Some c → filter_map f (g x ∷ []) ≡ c ∷ []
        one_of c e = rw e refl

  pub left_more : (xs : List A) (i : ℕ) (d x : A) (cs : List C) → i < length xs → x ≡ get_or xs i d → f (g x) ≡ None → cs ≡ filter_map f (map g (take i xs))
      → cs ≡ filter_map f (map g (take (i + 1) xs))
  left_more xs i d x cs low at here before =
      before ∙ sym (append_none (filter_map f (map g (take i xs)))) ∙ ap (λ l. filter_map f (map g (take i xs)) ++ l) (sym (none_of here)) ∙ sym (filter_map-append f (map g (take i xs)) (g x ∷ []))
      ∙ ap (filter_map f) (sym (map-append g (take i xs) (x ∷ []))) ∙ ap (λ l. filter_map f (map g l)) (sym (one_more xs i d x low at)) where
        none_of : f (g x) ≡ None → filter_map f (g x ∷ []) ≡ []
        none_of e = rw e refl

        append_none : (l : List C) → l ++ [] ≡ l
        append_none [] = refl
        append_none (y ∷ l) = ap (λ r. y ∷ r) (append_none l)

-- ---- the first and the others

abbrev pub is_formed_by : {B : Type 0} → (B → Bool) → (B → Bool) → List B → Bool
is_formed_by head rest [] = false
is_formed_by head rest (y ∷ ys) = head y && list_all rest ys

pub formed : {A B : Type 0} (f : A → B) (head rest : B → Bool) (xs : List A) (x : A) → 1 ≤ length xs → x ≡ get_or xs 0 x → head (f x) ≡ true
    → list_all (λ (y : A). rest (f y)) (take (length xs - 1) (drop 1 xs)) ≡ is_formed_by head rest (map f xs)
formed f head rest [] x low at is = absurd (omega arith)
formed f head rest (y ∷ xs) x low at is =
    let first : head (f y) ≡ true = ap (λ z. head (f z)) (sym at) ∙ is in
    rw first (sym (list_all-map rest f (take (length (y ∷ xs) - 1) xs)) ∙ ap (λ l. list_all rest (map f l)) (take_all (length (y ∷ xs) - 1) xs (omega arith)))

pub some_same : {A : Type 0} (a b : List A) → map Some a ≡ map Some b → a ≡ b
some_same {A = A} [] [] same = refl
some_same {A = A} [] (y ∷ b) same = absurd (cc)
some_same {A = A} (x ∷ a) [] same = absurd (cc)
some_same {A = A} (x ∷ a) (y ∷ b) same =
    let first : Some x ≡ Some y = cc in
    let others : map Some a ≡ map Some b = cc in
    ap₂ (λ (z : A) (l : List A). z ∷ l) (same_Some x y first) (some_same a b others)

-- ---- what holds of each

module _ {A B : Type 0} (P : B → Type 0) (f : A → B) where
  pub all_at : (front : List A) (x : A) (rest : List A) → All P (map f (front ++ x ∷ rest)) → P (f x)
  all_at [] x rest all = all 0 (f x) (omega arith)
  all_at (y ∷ front) x rest all = all_at front x rest (All-tail P (f y) (map f (front ++ x ∷ rest)) all)

  pub all_more : (front : List A) (x : A) → All P (map f front) → P (f x) → All P (map f (front ++ x ∷ []))
  all_more front x all one = rw (map-append f front (x ∷ [])) (All-append P (map f front) (f x ∷ []) all (All-cons P (f x) [] one (All-nil P)))

-- ==== Givens: The set-up that files say is one that set-up files can give.

-- ---- partners

-- each of several has what each answer has
each_partner : (entry : List ℕ × List ℕ) (partner : List ℕ × PartnerKind) → partner_said entry ≡ Some partner → (is_party_code partner.0 ≡ true) × (entry.0 ≡ partner.0)
each_partner entry partner said = by_code (is_party_code entry.0) (kind_named entry.1) refl said where
  by_code : (b : Bool) (kind : Option PartnerKind) → is_party_code entry.0 ≡ b → cond b (option_map (λ (k : PartnerKind). (entry.0, k)) kind) None ≡ Some partner → (is_party_code partner.0 ≡ true) × (entry.0 ≡ partner.0)
  by_code false kind is e = absurd (cc)
  by_code true None is e = absurd (cc)
  by_code true (Some kind) is e =
      let same : (entry.0, kind) ≡ partner = same_Some (entry.0, kind) partner e in
      let name : entry.0 ≡ partner.0 = ap (λ (p : List ℕ × PartnerKind). p.0) same in
      (ap is_party_code (sym name) ∙ is, name)

pub all_coded : (entries : List (List ℕ × List ℕ)) (partners : List (List ℕ × PartnerKind)) → map partner_said entries ≡ map Some partners → All (λ (partner : List ℕ × PartnerKind). IsTrue (is_party_code partner.0)) partners
all_coded [] [] said = All-nil _
all_coded [] (p ∷ partners) said = absurd (cc)
all_coded (e ∷ entries) [] said = absurd (cc)
all_coded (e ∷ entries) (p ∷ partners) said =
    let first : partner_said e ≡ Some p = cc in
    let others : map partner_said entries ≡ map Some partners = cc in
    All-cons (λ (partner : List ℕ × PartnerKind). IsTrue (is_party_code partner.0)) p partners (each_partner e p first).0 (all_coded entries partners others)

same_names : (entries : List (List ℕ × List ℕ)) (partners : List (List ℕ × PartnerKind)) → map partner_said entries ≡ map Some partners → names_of entries ≡ map (λ (partner : List ℕ × PartnerKind). partner.0) partners
same_names [] [] said = refl
same_names [] (p ∷ partners) said = absurd (cc)
same_names (e ∷ entries) [] said = absurd (cc)
same_names (e ∷ entries) (p ∷ partners) said =
    let first : partner_said e ≡ Some p = cc in
    let others : map partner_said entries ≡ map Some partners = cc in
    ap₂ (λ (n : List ℕ) (l : List (List ℕ)). n ∷ l) (each_partner e p first).1 (same_names entries partners others)

same_length : (entries : List (List ℕ × List ℕ)) (partners : List (List ℕ × PartnerKind)) → map partner_said entries ≡ map Some partners → length entries ≡ length partners
same_length [] [] said = refl
same_length [] (p ∷ partners) said = absurd (cc)
same_length (e ∷ entries) [] said = absurd (cc)
same_length (e ∷ entries) (p ∷ partners) said = let others : map partner_said entries ≡ map Some partners = cc in ap suc (same_length entries partners others)

another : (partners : List (List ℕ × PartnerKind)) (code : List ℕ) (k : ℕ) (b : List ℕ × PartnerKind) → list_any (λ (other : List ℕ). bytes_eq other code) (map (λ (partner : List ℕ × PartnerKind). partner.0) partners) ≡ false
    → slice_get partners k ≡ Some b → b.0 ≢ code
another [] code k b none at same = absurd (cc)
another (p ∷ partners) code zero b none at same =
    let is : bytes_eq p.0 code ≡ true = (bytes_eq-Decides p.0 code).1 (ap (λ (x : List ℕ × PartnerKind). x.0) (same_Some p b at) ∙ same) in
    let there : list_any (λ (other : List ℕ). bytes_eq other code) (map (λ (partner : List ℕ × PartnerKind). partner.0) (p ∷ partners)) ≡ true = rw is refl in
    absurd (cc)
another (p ∷ partners) code (suc k) b none at same = another partners code k b (rest (bytes_eq p.0 code) _ none) at same where
  rest : (x y : Bool) → x || y ≡ false → y ≡ false
  rest true y e = absurd (cc)
  rest false y e = e

distinct : (partners : List (List ℕ × PartnerKind)) → are_apart (map (λ (partner : List ℕ × PartnerKind). partner.0) partners) ≡ true → AreDistinct partners
distinct [] apart i j a b e f same = absurd (cc)
distinct (p ∷ partners) apart zero zero a b e f same = refl
distinct (p ∷ partners) apart zero (suc j) a b e f same =
    let both = and_parts (not (list_any (λ (other : List ℕ). bytes_eq other p.0) (map (λ (partner : List ℕ × PartnerKind). partner.0) partners))) _ apart in
    absurd (another partners p.0 j b (not-true _ both.0) f (sym same ∙ ap (λ (x : List ℕ × PartnerKind). x.0) (sym (same_Some p a e))))
distinct (p ∷ partners) apart (suc i) zero a b e f same =
    let both = and_parts (not (list_any (λ (other : List ℕ). bytes_eq other p.0) (map (λ (partner : List ℕ × PartnerKind). partner.0) partners))) _ apart in
    absurd (another partners p.0 i a (not-true _ both.0) e (same ∙ ap (λ (x : List ℕ × PartnerKind). x.0) (sym (same_Some p b f))))
distinct (p ∷ partners) apart (suc i) (suc j) a b e f same =
    let both = and_parts (not (list_any (λ (other : List ℕ). bytes_eq other p.0) (map (λ (partner : List ℕ × PartnerKind). partner.0) partners))) _ apart in
    ap suc (distinct partners both.1 i j a b e f same)

-- ---- a plan in another order

pub not_plan : (blocks : List Block) (fault : PlanFault) → IsFaulty blocks fault → ¬ IsPlan blocks
not_plan blocks Blocks faulty plan = faulty plan.counted
not_plan blocks Letter faulty plan = faulty.1 plan.lettered
not_plan blocks Twice faulty plan = faulty.2 plan.apart
not_plan blocks Size faulty plan = faulty.3 plan.sized

-- how many blocks have a letter
one : ℕ → Block → ℕ
one letter block = cond (block.letter == letter) 1 0

is_one : (letter : ℕ) (block : Block) → block.letter ≡ letter → one letter block ≡ 1
unfolding one
is_one letter block same = rw (eq-eqb block.letter letter same) refl

is_none : (letter : ℕ) (block : Block) → block.letter ≢ letter → one letter block ≡ 0
unfolding one
is_none letter block other = rw (ne_eqb block.letter letter other) refl

none_one : (letter : ℕ) (blocks : List Block) → ((k : ℕ) (block : Block) → slice_get blocks k ≡ Some block → block.letter ≢ letter) → sum_by (one letter) blocks ≡ 0
none_one letter [] others = refl
none_one letter (b ∷ blocks) others =
    let all = sum_by-cons (one letter) b blocks in
    let first = is_none letter b (others 0 b refl) in
    let rest = none_one letter blocks (λ k block at. others (suc k) block at) in
    omega (arith, all, first, rest)

some_one : (letter : ℕ) (blocks : List Block) (k : ℕ) (block : Block) → slice_get blocks k ≡ Some block → block.letter ≡ letter → 1 ≤ sum_by (one letter) blocks
some_one letter [] k block at same = absurd (cc)
some_one letter (b ∷ blocks) zero block at same =
    let first = is_one letter b (ap (λ (x : Block). x.letter) (same_Some b block at) ∙ same) in
    let all = sum_by-cons (one letter) b blocks in
    omega (arith, all, first)
some_one letter (b ∷ blocks) (suc k) block at same =
    let rest = some_one letter blocks k block at same in
    let all = sum_by-cons (one letter) b blocks in
    omega (arith, all, rest)

suc_same : (i j : ℕ) → suc i ≡ suc j → i ≡ j
suc_same i j e = omega arith

few_of_apart : (letter : ℕ) (blocks : List Block) → AreApart blocks → sum_by (one letter) blocks ≤ 1
few_of_apart letter [] apart = omega arith
few_of_apart letter (b ∷ blocks) apart =
    let all = sum_by-cons (one letter) b blocks in
    elim (cases_eq b.letter letter) [
      | inl same ↦ (let rest = none_one letter blocks (λ k block at again. (let e : 0 ≡ suc k = apart 0 (suc k) b block refl at (same ∙ sym again) in absurd (omega (arith, e)))) in
          let first = is_one letter b same in omega (arith, all, first, rest))
      | inr other ↦ (let rest = few_of_apart letter blocks (λ i j x y e f same. suc_same i j (apart (suc i) (suc j) x y e f same)) in
          let first = is_none letter b other in omega (arith, all, first, rest))
    ]

apart_of_few : (blocks : List Block) → ((letter : ℕ) → sum_by (one letter) blocks ≤ 1) → AreApart blocks
apart_of_few [] few i j x y e f same = absurd (cc)
apart_of_few (b ∷ blocks) few zero zero x y e f same = refl
apart_of_few (b ∷ blocks) few zero (suc j) x y e f same =
    let again = some_one b.letter blocks j y f (sym same ∙ ap (λ (z : Block). z.letter) (sym (same_Some b x e))) in
    let first = is_one b.letter b refl in
    let most = few b.letter in
    let all = sum_by-cons (one b.letter) b blocks in
    absurd (omega (arith, all, again, first, most))
apart_of_few (b ∷ blocks) few (suc i) zero x y e f same =
    let again = some_one b.letter blocks i x e (same ∙ ap (λ (z : Block). z.letter) (sym (same_Some b y f))) in
    let first = is_one b.letter b refl in
    let most = few b.letter in
    let all = sum_by-cons (one b.letter) b blocks in
    absurd (omega (arith, all, again, first, most))
apart_of_few (b ∷ blocks) few (suc i) (suc j) x y e f same =
    ap suc (apart_of_few blocks (λ letter. (let most = few letter in let all = sum_by-cons (one letter) b blocks in omega (arith, all, most))) i j x y e f same)

sum_long : (blocks : List Block) → sum_by (λ (block : Block). 1) blocks ≡ length blocks
sum_long [] = refl
sum_long (b ∷ blocks) = let rest = sum_long blocks in let all = sum_by-cons (λ (block : Block). 1) b blocks in omega (arith, all, rest)

pub plan_in_order : (said blocks : List Block) → IsPermutation said blocks → IsPlan said → IsPlan blocks
plan_in_order said blocks order plan =
    let long : length blocks ≡ length said = sym (sum_long blocks) ∙ sum_by-IsPermutation (λ (block : Block). 1) said blocks order ∙ sum_long said in
    record {
      counted = (omega (arith, plan.counted.0, long), omega (arith, plan.counted.1, long));
      lettered = All-permutation (λ (b : Block). IsTrue (is_ascii_uppercase b.letter)) said blocks order plan.lettered;
      apart = apart_of_few blocks (λ letter. (let same = sum_by-IsPermutation (one letter) said blocks order in let few = few_of_apart letter said plan.apart in omega (arith, same, few)));
      sized = All-permutation IsSized said blocks order plan.sized;
    }

-- ---- the set-up

limit_from : (entries : List (List ℕ × List ℕ)) (limit : ℕ) → limit_said entries ≡ Some limit → (1 ≤ limit) × (limit ≤ 999999999)
limit_from [] limit said = let same = same_Some 999999999 limit said in (omega (arith, same), omega (arith, same))
limit_from (entry ∷ []) limit said = by_form (bytes_eq entry.0 (codes "visits")) (number_of 9 entry.1) said where
  by_range : (least most : Bool) (n : ℕ) → nat_le 1 n ≡ least → nat_le n 999999999 ≡ most → cond (least && most) (Some n) None ≡ Some limit → (1 ≤ limit) × (limit ≤ 999999999)
  by_range false most n low high e = absurd (cc)
  by_range true false n low high e = absurd (cc)
  by_range true true n low high e =
      let same = same_Some n limit e in
      let least = leb-true 1 n low in
      let most = leb-true n 999999999 high in
      (omega (arith, same, least), omega (arith, same, most))

  by_form : (b : Bool) (number : Option ℕ) → cond b (limit_in number) None ≡ Some limit → (1 ≤ limit) × (limit ≤ 999999999)
  by_form false number e = absurd (cc)
  by_form true None e = absurd (cc)
  by_form true (Some n) e = by_range (nat_le 1 n) (nat_le n 999999999) n refl refl e
limit_from (entry ∷ second ∷ others) limit said = absurd (cc)

terminal_from : (entries : List (List ℕ × List ℕ)) (code : List ℕ) → terminal_said entries ≡ Some code → is_party_code code ≡ true
terminal_from [] code said = absurd (cc)
terminal_from (entry ∷ []) code said = by_form (is_party_code entry.0) (bytes_eq entry.1 []) refl said where
  by_form : (b e : Bool) → is_party_code entry.0 ≡ b → cond (b && e) (Some entry.0) None ≡ Some code → is_party_code code ≡ true
  by_form false e is same = absurd (cc)
  by_form true false is same = absurd (cc)
  by_form true true is same = ap is_party_code (sym (same_Some entry.0 code same)) ∙ is
terminal_from (entry ∷ second ∷ others) code said = absurd (cc)

pub given : (p b : List (List (List ℕ))) (setup : SetupContent) → SaysSetup p b setup → IsGiven setup
given p b setup says = record {
  terminal = terminal_from (section (codes "terminal") p) setup.terminal says.terminal;
  counted = (omega (arith, says.partners.counted.0, same_length (section (codes "partner") p) setup.partners says.partners.said), omega (arith, says.partners.counted.1, same_length (section (codes "partner") p) setup.partners says.partners.said));
  coded = all_coded (section (codes "partner") p) setup.partners says.partners.said;
  distinct = distinct setup.partners (ap are_apart (sym (same_names (section (codes "partner") p) setup.partners says.partners.said)) ∙ says.partners.apart);
  codes = ap table_fault says.table ∙ says.coded.table;
  plan = plan_in_order says.blocks.0 setup.blocks says.blocks.2 says.blocks.1.plan;
  by_letter = says.by_letter;
  limit = limit_from (section (codes "limit") p) setup.visit_limit says.limit;
}

-- ==== Partners: What is wrong with the partner of a record.

-- the record after the first so many is the first of the rest
pub fault_read : {A : Type 0} (g : A → Record) (front back texts : List A) (n : ℕ) (row : A) (partner : NamedValue) (others : List NamedValue) (fault : Option PartnerFault)
    → front ≡ take n texts → back ≡ drop n texts → 1 ≤ length back → row ≡ get_or back 0 row
    → others ≡ section (codes "partner") (map g front) → entry_of (codes "partner") (g row) ≡ Some partner
    → fault ≡ fault_of_partner others partner → fault ≡ fault_after n (map g texts)
fault_read g front [] texts n row partner others fault fronts backs long item before entry is = absurd (omega (arith, long))
fault_read g front (first ∷ back) texts n row partner others fault fronts backs long item before entry is =
    let same : row ≡ first = item in
    let front_is : take n (map g texts) ≡ map g front = take-map g n texts ∙ ap (map g) (sym fronts) in
    let back_is : drop n (map g texts) ≡ g first ∷ map g back = drop-map g n texts ∙ ap (map g) (sym backs) in
    let read : fault_of_first (map g front) (g first ∷ map g back) ≡ fault_of_partner (section (codes "partner") (map g front)) partner =
    ap (λ (o : Option NamedValue). option_map_or (fault_of_partner (section (codes "partner") (map g front))) o None)
    (ap (λ r. entry_of (codes "partner") (g r)) (sym same) ∙ entry) in
    is ∙ ap (λ (o : List NamedValue). fault_of_partner o partner) before ∙ sym (ap₂ fault_of_first front_is back_is ∙ read)

-- ---- a set-up that is given

pub few_partners : (setup : Setup) → IsGiven (setup_content setup) → length setup.partners.items ≤ most_partners
few_partners setup is =
    let same = length-map {B = List ℕ × PartnerKind} setup.partners.items (λ account. (string_bytes account.code, account.kind)) in
    omega (arith, is.counted.1, same)
