-- One segment more, of those that are looked through.
use Rattle.std.{specs.List.{list_all, list_any}, proofs.lemmas.Bool.{cases_Bool, false≢true}}
use Rattle.std.proofs.Common.{◌≡◌, ◌∷◌, Bool, true, false, cond, ◌&&◌, ◌||◌, List, [], length, codes, Some, None, refl, ap, ◌∙◌, inl, inr}
use Rattle.edi_syntax.specs.{Text.{Content, has_tag}, Envelope.{last_of, is_of_functional_group}, TallyValues.tally_in, Tallies.IsTally}
use Rattle.edi_syntax.specs.Messages.{begins_message, ends_message, is_inner, before_trailer, trailer_in, messages_in, are_messages, is_counted, is_referenced}
use Rattle.edi_syntax.{specs.declared.faults.Tally.Tally, proofs.BlockLemmas.{other_tag, inner_tags}}

-- the trailer of a message
pub record AtTrailer (segments : List Content) (trailer : Content) (more : List Content) : Type 0 where
  pub before : before_trailer segments ≡ []
  pub trailer_is : trailer_in segments ≡ trailer
  pub framed : are_messages true segments ≡ are_messages false more
  pub others : messages_in segments ≡ messages_in more
  pub group : list_any is_of_functional_group segments ≡ list_any is_of_functional_group more
  pub last : (before : Content) → last_of before segments ≡ last_of trailer more

at : (trailer : Content) (more : List Content) → ends_message trailer ≡ true → AtTrailer (trailer ∷ more) trailer more
at trailer more ends =
    let no_begin : begins_message trailer ≡ false = other_tag trailer (codes "UNT") (codes "UNH") refl ends in
    let no_ung : has_tag (codes "UNG") trailer ≡ false = other_tag trailer (codes "UNT") (codes "UNG") refl ends in
    let no_une : has_tag (codes "UNE") trailer ≡ false = other_tag trailer (codes "UNT") (codes "UNE") refl ends in
    record {
      before = rw ends refl;
      trailer_is = rw ends refl;
      framed = rw ends refl;
      others = rw no_begin refl;
      group = rw (no_ung, no_une) refl;
      last = λ before. refl;
    }

pub at_trailer : (segments : List Content) (trailer : Content) (more : List Content) → segments ≡ trailer ∷ more → ends_message trailer ≡ true → AtTrailer segments trailer more
at_trailer segments trailer more is ends = rw is (at trailer more ends)

-- a segment within a message
pub record Within (segments : List Content) (segment : Content) (more : List Content) : Type 0 where
  pub before : before_trailer segments ≡ segment ∷ before_trailer more
  pub trailer_is : trailer_in segments ≡ trailer_in more
  pub framed : are_messages true segments ≡ are_messages true more
  pub others : messages_in segments ≡ messages_in more
  pub group : list_any is_of_functional_group segments ≡ (is_of_functional_group segment || list_any is_of_functional_group more)
  pub last : (before : Content) → last_of before segments ≡ last_of segment more

inside : (segment : Content) (more : List Content) → is_inner segment ≡ true → Within (segment ∷ more) segment more
inside segment more inner =
    let tags = inner_tags segment inner in
    record {
      before = rw tags.1 refl;
      trailer_is = rw tags.1 refl;
      framed = (let one : are_messages true (segment ∷ more) ≡ (is_inner segment && are_messages true more) = ap (λ (b : Bool). cond b (are_messages false more) (is_inner segment && are_messages true more)) tags.1 in one)
          ∙ ap (λ (b : Bool). b && are_messages true more) inner;
      others = rw tags.0 refl;
      group = refl;
      last = λ before. refl;
    }

pub within : (segments : List Content) (segment : Content) (more : List Content) → segments ≡ segment ∷ more → is_inner segment ≡ true → Within segments segment more
within segments segment more is inner = rw is (inside segment more inner)

-- the end of the interchange
pub record AtEnd (segments : List Content) (trailer : Content) : Type 0 where
  pub framed : are_messages false segments ≡ true
  pub none : messages_in segments ≡ []
  pub group : list_any is_of_functional_group segments ≡ false
  pub last : (before : Content) → last_of before segments ≡ trailer

pub at_end : (segments : List Content) (trailer : Content) (more : List Content) → segments ≡ trailer ∷ more → more ≡ [] → has_tag (codes "UNZ") trailer ≡ true → AtEnd segments trailer
at_end segments trailer more is none ends =
    let no_begin : begins_message trailer ≡ false = other_tag trailer (codes "UNZ") (codes "UNH") refl ends in
    let no_ung : has_tag (codes "UNG") trailer ≡ false = other_tag trailer (codes "UNZ") (codes "UNG") refl ends in
    let no_une : has_tag (codes "UNE") trailer ≡ false = other_tag trailer (codes "UNZ") (codes "UNE") refl ends in
    rw (is, none) (let one : AtEnd (trailer ∷ []) trailer = record {
      framed = rw (no_begin, ends) refl;
      none = rw no_begin refl;
      group = rw (no_ung, no_une) refl;
      last = λ before. refl;
    } in one)

pub and_true : (b : Bool) → b && true ≡ b
and_true true = refl
and_true false = refl

pub or_false : (b : Bool) → b || false ≡ b
or_false true = refl
or_false false = refl

-- ---- the tally as a function

pub tally_none : (segments : List Content) → None ≡ tally_in segments → are_messages false segments ≡ false
tally_none segments is =
    elim (cases_Bool (are_messages false segments)) [
      | inl framed ↦ let some : None ≡ tally_in segments = is in absurd (none_some (are_messages false segments) framed is)
      | inr other ↦ other
    ]
  where
    none_some : (b : Bool) → b ≡ true → None ≡ cond b (Some (let t : Tally = record { are_counted = list_all is_counted (messages_in segments); are_referenced = list_all is_referenced (messages_in segments); messages = length (messages_in segments) } in t)) None → ⊥
    none_some true e h = cc
    none_some false e h = false≢true e

pub tally_some : (segments : List Content) (tally : Tally) → Some tally ≡ tally_in segments → IsTally segments tally
tally_some segments tally is = found (are_messages false segments) refl is
  where
    whole : Tally
    whole = record { are_counted = list_all is_counted (messages_in segments); are_referenced = list_all is_referenced (messages_in segments); messages = length (messages_in segments) }

    found : (b : Bool) → are_messages false segments ≡ b → Some tally ≡ cond b (Some whole) None → IsTally segments tally
    found false e h = absurd cc
    found true e h =
        let same : tally ≡ whole = cc in
        record { framed = e; counted = ap (λ (t : Tally). t.are_counted) same; referenced = ap (λ (t : Tally). t.are_referenced) same; messages = ap (λ (t : Tally). t.messages) same }
