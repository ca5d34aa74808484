use Rattle.std.proofs.Common.{sym, subst, refl}
use Rattle.office_http.{specs.Requests.IsDelivery, proofs.SenderLemmas.posted_explained}
use Rattle.office_http.proofs.routes.explained.Goals as goal

pub returns-in-Delivery : goal.returns-in-Delivery
returns-in-Delivery c =
    let text = c.in-Delivery.text.items in
    posted_explained text c.args.posted _ (subst (IsDelivery text) (sym c.in-Delivery.is) refl) refl
