-- Texts in pages (`IsPage` of office_loading): each list of texts has one.
use Rattle.std.specs.Prelude.{◌≡◌, ℕ, List}
use Rattle.office_loading.specs.Pages.{IsPage}

-- whatever the limit, texts have a page, and only one
pub record TextsHaveOnePage : Type 0 where
  pub has : (most : ℕ) (all : List (List ℕ)) → (page : List (List ℕ)) × IsPage most all page
  pub one : (most : ℕ) (all page other : List (List ℕ)) → IsPage most all page → IsPage most all other → page ≡ other
