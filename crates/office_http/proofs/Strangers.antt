-- What a stranger asks for.
use Rattle.std.specs.Str.{bytes_eq}
use Rattle.std.proofs.Common.{◌≡◌, ℕ, List, [], Bool, true, false, ◌&&◌, cond, map, codes, Option, None, Some, Result, Err, inl, inr, refl, sym, ap, subst, ◌∙◌}
use Rattle.httparse.specs.{Grammar.RequestHead, Spans.name_and_value}
use Rattle.office_http.specs.{Fields.values_of, Requests.{AsksAt, AsksWith, LacksMemory, refused_in, StrangersAreRefused}, Routes.endpoint_of}
use Rattle.office_http.specs.Sites.{fetch_passes, host_passes, leads_to, origin_passes, site_passes, stranger, TellingNothingPasses, unless_stranger}
use Rattle.office_http.specs.{Targets.showing_of, declared.routes.Endpoint.Endpoint, declared.targets.Showing.Showing, declared.response.Refusal.Refusal}
use Rattle.office_http.specs.{declared.response.Refusal.TheVariants.{OtherHost, OtherSite}, declared.requests.Request.Request}
use Rattle.office_http.{specs.declared.requests.Request.TheVariants.Refused, proofs.OneRequest.heads_are_one}

-- ---- why

-- a refusal of a stranger is the same in each showing
in_any : (showing : Showing) (host site post : Bool) (refusal : Refusal) →
    ◌≡◌ {A = Option Refusal} (cond host (cond post (cond site None (Some OtherSite)) None) (Some OtherHost)) (Some refusal) → refused_in showing refusal ≡ Refused refusal
in_any showing true true true refusal is = cc
in_any showing true false true refusal is = let same : OtherSite ≡ refusal = cc in subst (λ (r : Refusal). refused_in showing r ≡ Refused r) same refl
in_any showing true site false refusal is = cc
in_any showing false site post refusal is = let same : OtherHost ≡ refusal = cc in subst (λ (r : Refusal). refused_in showing r ≡ Refused r) same refl

-- ---- what it asks for

module _ (name : Option (List ℕ)) (head : RequestHead) (refusal : Refusal) (is : stranger name head.method (map name_and_value head.fields) ≡ Some refusal) where
  leads_nowhere : leads_to name head ≡ Err refusal
  leads_nowhere = ap (λ (o : Option Refusal). unless_stranger o (endpoint_of head.method head.target)) is

  with_refused : (rest : List ℕ) (request : Request) → AsksWith name head rest request → request ≡ Refused refusal
  with_refused rest request (inl lacks) = absurd (subst (λ (to : Result Endpoint Refusal). LacksMemory to head rest request) leads_nowhere lacks)
  with_refused rest request (inr asks) =
      let refused : request ≡ refused_in (showing_of head.target) refusal =
      subst (λ (to : Result Endpoint Refusal). AsksAt to head rest request) leads_nowhere asks in
      refused ∙ in_any (showing_of head.target) (host_passes name (values_of (codes "Host") (map name_and_value head.fields)))
      (site_passes (map name_and_value head.fields)) (bytes_eq head.method (codes "POST")) refusal is

pub strangers_are_refused : StrangersAreRefused
strangers_are_refused name stream head rest refusal request here is (inl (none, refused)) = absurd (none head rest here)
strangers_are_refused name stream head rest refusal request here is (inr (head', rest', here', asks)) =
    let same = heads_are_one stream head head' rest rest' here here' in
    with_refused name head refusal is rest request
    (subst (λ (h : RequestHead). AsksWith name h rest request) (sym same.0) (subst (λ (r : List ℕ). AsksWith name head' r request) (sym same.1) asks))

-- ---- what tells nothing

passes_whatever : (post : Bool) → ◌≡◌ {A = Option Refusal} (cond post None None) None
passes_whatever true = refl
passes_whatever false = refl

pub telling_nothing_passes : TellingNothingPasses
telling_nothing_passes name method fields hosts origins fetched =
    (λ i. cond (host_passes name (hosts i)) (cond (bytes_eq method (codes "POST"))
    (cond (fetch_passes (fetched i) && origin_passes (hosts i) (origins i)) None (Some OtherSite)) None) (Some OtherHost))
    ∙ passes_whatever (bytes_eq method (codes "POST"))
