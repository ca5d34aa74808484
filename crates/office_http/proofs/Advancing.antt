-- What becomes of a connection by several steps.
use Rattle.std.proofs.{Common.{◌≡◌, ◌≤◌, ◌∙◌, ◌++◌, ℕ, List, [], refl, ap, sym, subst, append_assoc, arith}, lemmas.List.append-nil}
use Rattle.office_http.specs.Lines.{HasGrown, IsAdvanced, IsGivenUp, IsHeard, IsParted, IsSamePeer, IsTold}
use Rattle.office_http.specs.{declared.line.Asking.Asking, declared.line.Line.Line, declared.line.Peer.Peer}
use Rattle.office_http.specs.declared.line.Line.TheVariants as line

-- ---- the same connection

pub same_peer : (peer : Peer) → IsSamePeer peer peer
same_peer peer = record { place = refl; accepted = refl }

pub same_as : (first next last : Peer) → IsSamePeer first next → last ≡ next → IsSamePeer first last
same_as first next last same is = subst (λ (peer : Peer). IsSamePeer first peer) (sym is) same

-- ---- what has come

pub grown_none : (asked : List ℕ) → HasGrown asked asked
grown_none asked = ([], sym (append-nil asked))

pub grown_more : (first next last : List ℕ) → HasGrown first next → HasGrown next last → HasGrown first last
grown_more first next last one other =
    (one.0 ++ other.0, other.1 ∙ ap (λ (t : List ℕ). t ++ other.0) one.1 ∙ append_assoc first one.0 other.0)

-- ---- a step

-- none
pub stays : (one : Line) → IsAdvanced one one
stays (line.Asking asking) = same_peer asking.peer
stays (line.Ready ready) = refl
stays (line.Telling telling) = (same_peer telling.peer, refl, omega arith, refl)
stays (line.Parting parting) = (same_peer parting.peer, refl)
stays line.Over = refl

-- it is heard
pub heard_is : (asking : Asking) (new : Line) → IsHeard asking new → IsAdvanced (line.Asking asking) new
heard_is asking (line.Asking later) is = is.0
heard_is asking (line.Ready ready) is = is.0
heard_is asking (line.Telling telling) none = absurd none
heard_is asking (line.Parting parting) none = absurd none
heard_is asking line.Over none = absurd none

-- it is given up after another
pub given_up_after : (old one new : Line) → IsAdvanced old one → IsGivenUp one new → IsAdvanced old new
given_up_after (line.Asking asking) (line.Asking later) new same up =
    subst (λ (n : Line). IsAdvanced (line.Asking asking) n) (sym up.1) (same_as asking.peer later.peer up.0.peer same up.2)
given_up_after (line.Asking asking) (line.Ready ready) new same up =
    subst (λ (n : Line). IsAdvanced (line.Asking asking) n) (sym up) same
given_up_after (line.Asking asking) (line.Telling telling) new none up = absurd none
given_up_after (line.Asking asking) (line.Parting parting) new none up = absurd none
given_up_after (line.Asking asking) line.Over new none up = absurd none
given_up_after (line.Ready ready) one new is up = subst (λ (n : Line). IsGivenUp n new) is up
given_up_after (line.Telling telling) (line.Asking asking) new none up = absurd none
given_up_after (line.Telling telling) (line.Ready ready) new none up = absurd none
given_up_after (line.Telling telling) (line.Telling later) new told up = subst (λ (n : Line). IsTold telling n) (sym up) tt
given_up_after (line.Telling telling) (line.Parting parting) new told up = subst (λ (n : Line). IsTold telling n) (sym up) tt
given_up_after (line.Telling telling) line.Over new told up = subst (λ (n : Line). IsTold telling n) (sym up) tt
given_up_after (line.Parting parting) (line.Asking asking) new none up = absurd none
given_up_after (line.Parting parting) (line.Ready ready) new none up = absurd none
given_up_after (line.Parting parting) (line.Telling telling) new none up = absurd none
given_up_after (line.Parting parting) (line.Parting later) new parted up = subst (λ (n : Line). IsParted parting n) (sym up) tt
given_up_after (line.Parting parting) line.Over new parted up = subst (λ (n : Line). IsParted parting n) (sym up) tt
given_up_after line.Over one new is up = subst (λ (n : Line). IsGivenUp n new) is up
