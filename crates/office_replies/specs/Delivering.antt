-- Deliveries one after the other.
use Rattle.std.specs.Prelude.{◌≡◌, ℕ, List, [], ◌∷◌, ◌++◌}
use Rattle.office_replies.specs.{Events.{Event, delivered}, declared.deliver.Response.Response, declared.deliver.Response.TheVariants.NotNow}

-- the events after a text and its response: one that was answered NotNow is none
abbrev pub with_answered : List Event → List ℕ → Response → List Event
with_answered es text NotNow = es
with_answered es text response = es ++ delivered text ∷ []

-- after those events it is answered so, and then this stands
abbrev pub Delivers : {D : Type 0} → (List Event → D → Type 0) → (List Event → List ℕ → Response → Type 0) → List Event →
    List ℕ → Response → D → Type 0
Delivers stands answers es text response new = answers es text response × stands (with_answered es text response) new

-- each response answers its text at its place
abbrev pub AnswersEach : (List Event → List ℕ → Response → Type 0) → List Event → List (List ℕ) → List Response → Type 0
AnswersEach answers es [] [] = Unit {0}
AnswersEach answers es [] (response ∷ responses) = ⊥
AnswersEach answers es (text ∷ texts) [] = ⊥
AnswersEach answers es (text ∷ texts) (response ∷ responses) =
    answers es text response × AnswersEach answers (with_answered es text response) texts responses

-- the events after those texts
abbrev pub events_behind : List Event → List (List ℕ) → List Response → List Event
events_behind es [] responses = es
events_behind es (text ∷ texts) [] = es
events_behind es (text ∷ texts) (response ∷ responses) = events_behind (with_answered es text response) texts responses

-- after those events each text was answered at its place, and this stands then
pub record AreAnswered {D : Type 0} (stands : List Event → D → Type 0) (answers : List Event → List ℕ → Response → Type 0)
    (es : List Event) (new : D) (texts : List (List ℕ)) (responses : List Response) : Type 0 where
  pub each : AnswersEach answers es texts responses
  pub stands_now : stands (events_behind es texts responses) new

-- those texts, one after the other and each with its response, lead from what it was to what it is
abbrev pub LeadsOn : {D : Type 0} → (leads : D → List ℕ → Response → D → Type 0) → D → List (List ℕ) → List Response → D →
    Type 0
LeadsOn leads old [] [] new = new ≡ old
LeadsOn leads old [] (response ∷ responses) new = ⊥
LeadsOn leads old (text ∷ texts) [] new = ⊥
LeadsOn {D} leads old (text ∷ texts) (response ∷ responses) new =
    (next : D) × leads old text response next × LeadsOn leads next texts responses new
