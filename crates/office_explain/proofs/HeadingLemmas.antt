-- Blocks are told one after the other.
use Rattle.std.proofs.{Common.{◌≡◌, ◌∙◌, ◌++◌, ℕ, List, [], ◌∷◌, refl, ap, sym, append_assoc}, lemmas.List.append-nil}
use Rattle.office_explain.specs.{Headings.{ListsBlocks, TellsBlock, heading_said}, declared.explaining.Block.Block}

-- one more
pub listed_more : (blocks : List Block) (block : Block) (old new : List ℕ) → ListsBlocks blocks [] old → TellsBlock block old new →
    ListsBlocks (blocks ++ block ∷ []) [] new
listed_more [] block old new none tells =
    let told = heading_said block ++ tells.0 in
    (tells.0, [], tells.1 ∙ ap (λ (t : List ℕ). t ++ heading_said block ++ tells.0) none ∙ sym (append-nil told), refl)
listed_more (first ∷ blocks) block old new listed tells =
    let front = heading_said first ++ listed.0 in
    let later = listed.1 ++ heading_said block ++ tells.0 in (
      listed.0,
      later,
      tells.1 ∙ ap (λ (t : List ℕ). t ++ heading_said block ++ tells.0) listed.2
          ∙ ap (λ (t : List ℕ). t ++ tells.0) (append_assoc front listed.1 (heading_said block))
          ∙ append_assoc front (listed.1 ++ heading_said block) tells.0,
      listed_more blocks block listed.1 later listed.3 (tells.0, refl),
    )

-- and then an end
pub listed_to : (blocks : List Block) (end old new : List ℕ) → ListsBlocks blocks [] old → new ≡ old ++ end → ListsBlocks blocks end new
listed_to [] end old new none ends = ends ∙ ap (λ (t : List ℕ). t ++ end) none
listed_to (first ∷ blocks) end old new listed ends = (
  listed.0,
  listed.1 ++ end,
  ends ∙ ap (λ (t : List ℕ). t ++ end) listed.2 ∙ append_assoc (heading_said first ++ listed.0) listed.1 end,
  listed_to blocks end listed.1 (listed.1 ++ end) listed.3 refl,
)
