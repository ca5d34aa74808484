-- Accounts that are added, one event each.
use Rattle.std.specs.Prelude.{ℕ, List, [], ◌∷◌, ◌++◌}
use Rattle.office_replies.specs.{Events.{Event, added}, declared.accounts.AccountAnswer.AccountAnswer, declared.accounts.AccountAnswer.TheVariants.Added}

-- the events after a code, a kind and their answer: only an account that was added is one
abbrev pub with_added : List Event → List ℕ → List ℕ → AccountAnswer → List Event
with_added es code kind (Added id body) = es ++ added code kind ∷ []
with_added es code kind answer = es

-- after those events it is answered so, and then this stands
abbrev pub Adds : {D : Type 0} → (List Event → D → Type 0) → (List Event → List ℕ → List ℕ → AccountAnswer → Type 0) →
    List Event → List ℕ → List ℕ → AccountAnswer → D → Type 0
Adds stands answers es code kind answer new = answers es code kind answer × stands (with_added es code kind answer) new
