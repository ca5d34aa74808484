-- Which account a code names, and what a map of the codes says of it after a change.
use Rattle.std.specs.{Option.option_map, Str.bytes_eq, Cmp.Lexicographic.nat_list_eq_equiv, HashMap.UpdatesBy, Map.{lookup, KeepsOthers, IsKeyTest, AreApart}}
use Rattle.std.proofs.Common.{◌≡◌, ◌≢◌, ◌<◌, ◌≤◌, ◌+◌, ℕ, Bool, true, false, cond, List, [], ◌∷◌, length, Option, None, Some, IfSome, IsTrue, string_bytes, HashMap, Vec, Global, drop, get_or, refl, ⊎_elim, sym, ap, subst, ◌∙◌, arith, rules}
use Rattle.std.proofs.{lemmas.Bool.{cases_Bool, cond-true, cond-false}, lemmas.List.{drop_more, length-map}, lemmas.List.Elements.{All-head, All-tail}}
use Rattle.std.proofs.lemmas.Slice.Eq.{bytes_eq-Decides}
use Rattle.edi_messages.specs.declared.codes.PartnerKind.{PartnerKind}
use Rattle.office_admission.specs.{PartyCodes.is_party_code, SetupAccounts.{account_contents, partner_codes, partner_from, AreCoded, index_in}}
use Rattle.office_admission.specs.declared.setup.Account.{Account}

equal : (a b : List ℕ) → bytes_eq a b ≡ true → a ≡ b
equal a b same = (bytes_eq-Decides a b).0 same

apart : (a b : List ℕ) → a ≢ b → bytes_eq a b ≡ false
apart a b other = ⊎_elim (λ same. absurd (other (equal a b same))) (λ not. not) (cases_Bool (bytes_eq a b))

option_map-cond : (f : ℕ → ℕ) (b : Bool) (x y : Option ℕ) → option_map f (cond b x y) ≡ cond b (option_map f x) (option_map f y)
option_map-cond f true x y = refl
option_map-cond f false x y = refl

-- counted from one number further on, the number is one more
pub one_further : (number : ℕ) (code : List ℕ) (codes : List (List ℕ)) →
    option_map (λ found. found + 1) (partner_from number code codes) ≡ partner_from (number + 1) code codes
one_further number code [] = refl
one_further number code (partner ∷ partners) =
    option_map-cond (λ found. found + 1) (bytes_eq code partner) (Some number) (partner_from (number + 1) code partners)
    ∙ ap (λ rest. cond (bytes_eq code partner) (Some (number + 1)) rest) (one_further (number + 1) code partners)

IfSome-cond : (P : ℕ → Type 0) (b : Bool) (x y : Option ℕ) → IfSome x P → IfSome y P → IfSome (cond b x y) P
IfSome-cond P true x y here there = here
IfSome-cond P false x y here there = there

-- a number that is found is that of a partner
pub is_within : (number : ℕ) (code : List ℕ) (codes : List (List ℕ)) →
    IfSome (partner_from number code codes) (λ found. found < number + length codes)
is_within number code [] = tt
is_within number code (partner ∷ partners) =
    IfSome-cond (λ found. found < number + length (partner ∷ partners)) (bytes_eq code partner) (Some number)
    (partner_from (number + 1) code partners) (omega arith)
    (subst (λ n. IfSome (partner_from (number + 1) code partners) (λ found. found < n)) (omega arith) (is_within (number + 1) code partners))

-- an index that is found is that of an account
pub found_within : (accounts : List Account) (code : List ℕ) (found : Option ℕ) → found ≡ partner_from 0 code (partner_codes accounts) →
    IfSome found (λ index. index < length accounts)
found_within accounts code found is =
    let counted : 0 + length (partner_codes accounts) ≡ length accounts = omega (arith, length-map accounts (λ account. string_bytes account.code)) in
    subst (λ n. IfSome found (λ index. index < n)) counted
    (subst (λ o. IfSome o (λ index. index < 0 + length (partner_codes accounts))) (sym is) (is_within 0 code (partner_codes accounts)))

-- a partner's code is no longer than one may be
short : (code : List ℕ) → IsTrue (is_party_code code) → length code ≤ 35
short code is = grind (arith, rules, is)

-- no partner has a code that is longer than one may be
pub none_longer : (accounts : List Account) → AreCoded accounts → (code : List ℕ) → 35 < length code → (number : ℕ) →
    partner_from number code (partner_codes accounts) ≡ None
none_longer [] coded code long number = refl
none_longer (account ∷ accounts) coded code long number =
    let P : List ℕ × PartnerKind → Type 0 = λ partner. IsTrue (is_party_code partner.0) in
    let first = short (string_bytes account.code) (All-head P _ (account_contents accounts) coded) in
    let other : bytes_eq code (string_bytes account.code) ≡ false = apart code (string_bytes account.code) (λ e. omega (arith, long, first, ap length e)) in
    cond-false _ (Some number) (partner_from (number + 1) code (partner_codes accounts)) other
    ∙ none_longer accounts (All-tail P _ (account_contents accounts) coded) code long (number + 1)

other_entries : {K X : Type 0} (eq : K → K → Bool) (test : K → Bool) (old new : List (K × X)) → KeepsOthers eq test old new →
    (other : K → Bool) → IsKeyTest eq other → AreApart test other → lookup other new ≡ lookup other old
unfolding KeepsOthers
other_entries eq test old new kept = kept

-- a map has at each code what it had, but for the one that was inserted
pub found_after : {S : Type 0} (old new : HashMap (Vec ℕ Global) ℕ S) (key : Vec ℕ Global) (index : Option ℕ) →
    UpdatesBy (λ x y. bytes_eq x.items y.items) (λ k. bytes_eq key.items k.items) old new index →
    (code : List ℕ) → index_in new code ≡ cond (bytes_eq code key.items) index (index_in old code)
found_after old new key index updates code =
    ⊎_elim
    (λ same. subst (λ l. index_in new l ≡ index) (sym (equal code key.items same)) updates.1 ∙ sym (cond-true _ index (index_in old code) same))
    (λ other.
    other_entries _ _ _ _ updates.3 (λ k. bytes_eq code k.items) (λ x y. nat_list_eq_equiv.congr code x.items y.items)
    (λ k is. nat_list_eq_equiv.symm code k.items ∙ sym (nat_list_eq_equiv.congr key.items k.items code is) ∙ nat_list_eq_equiv.symm key.items code ∙ other)
    ∙ sym (cond-false _ index (index_in old code) other))
    (cases_Bool (bytes_eq code key.items))

-- the partners from an account on are it and those after it
pub one_earlier : (accounts : List Account) (at : ℕ) (here : Account) → at < length accounts → here ≡ get_or accounts at here → (code : List ℕ) →
    cond (bytes_eq code (string_bytes here.code)) (Some at) (partner_from (at + 1) code (partner_codes (drop (at + 1) accounts)))
    ≡ partner_from at code (partner_codes (drop at accounts))
one_earlier accounts at here low is code =
    ap (λ (account : Account). partner_from at code (partner_codes (account ∷ drop (at + 1) accounts))) is
    ∙ sym (ap (λ l. partner_from at code (partner_codes l)) (drop_more accounts at here low))
