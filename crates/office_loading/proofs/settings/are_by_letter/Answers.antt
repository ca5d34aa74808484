use Rattle.std.proofs.{Common.{◌≡◌, ℕ, ◌+◌, ◌-◌, ◌<◌, ◌≤◌, List, length, get_or, ap, inl, inr, ◌⊎◌, arith}, lemmas.List.get_or_default}
use Rattle.yard_core.specs.declared.plan.Block.{Block}
use Rattle.office_loading.proofs.settings.are_by_letter.Goals as goal

abbrev at : List Block → ℕ → Block → ℕ
at blocks i d = (get_or blocks i d).letter

abbrev none : Block
none = record { letter = 0; bays = 0; rows = 0; tiers = 0 }

cases : (i j n : ℕ) → i ≤ j → j < n + 1 → (j < n) ⊎ ((j ≡ n) × (i < n)) ⊎ ((j ≡ n) × (i ≡ n))
cases i j n h k = grind arith

any : (blocks : List Block) (i : ℕ) (d e : Block) → i < length blocks → at blocks i d ≡ at blocks i e
any blocks i d e low = ap (λ (b : Block). b.letter) (get_or_default blocks i d e low)

further : (blocks : List Block) (n : ℕ) → n < length blocks → 1 ≤ n → at blocks (n - 1) none ≤ at blocks n none → ((i j : ℕ) (d : Block) → i ≤ j → j < n → at blocks i d ≤ at blocks j d) → (i j : ℕ) (d : Block) → i ≤ j → j < n + 1
    → at blocks i d ≤ at blocks j d
further blocks n low high step before i j d h k =
    let last : at blocks n d ≡ at blocks n none = any blocks n d none low in
    let prior : at blocks (n - 1) d ≡ at blocks (n - 1) none = any blocks (n - 1) d none (omega arith) in
    elim (cases i j n h k) [
      | inl below ↦ before i j d h below
      | inr rest ↦ elim rest [
        | inl (e, less) ↦ (let f : at blocks i d ≤ at blocks (n - 1) d = before i (n - 1) d (omega arith) (omega arith) in
            let g : at blocks j d ≡ at blocks n d = ap (λ m. at blocks m d) e in omega arith)
        | inr (e, same) ↦ (let g : at blocks j d ≡ at blocks n d = ap (λ m. at blocks m d) e in let f : at blocks i d ≡ at blocks n d = ap (λ m. at blocks m d) same in omega arith)
      ]
    ]

pub loop-index-preserved : goal.loop-index-preserved
loop-index-preserved c = further c.args.blocks.now c.loop-index.index c.loop-index-test.true c.loop-index.auto.index c.if-blocks-index.false c.loop-index.invariant
