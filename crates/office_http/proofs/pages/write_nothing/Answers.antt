use Rattle.std.proofs.Common.{◌≡◌, ◌⊎◌, inl, inr, List, ℕ, None, ap, subst, sym, ◌∙◌}
use Rattle.office_pages.specs.declared.notices.Notice.TheVariants.{NotHere}
use Rattle.office_http.specs.{Ports.Sends, Responses.response_bytes, Served.{notice_response, nothing_bytes}, declared.head.ContentType.TheVariants.Page}
use Rattle.office_http.specs.declared.targets.Showing.{Showing}
use Rattle.office_http.specs.declared.targets.Showing.TheVariants as showing
use Rattle.office_http.proofs.pages.write_nothing.Goals as goal

-- where nothing is, each of these views tells so
nothing_there : (shown_by : Showing) → (shown_by ≡ showing.Page) ⊎ ((shown_by ≡ showing.Find) ⊎ (shown_by ≡ showing.Start)) → notice_response NotHere ≡ nothing_bytes shown_by
nothing_there shown_by (inl is) = ap nothing_bytes (sym is)
nothing_there shown_by (inr (inl is)) = ap nothing_bytes (sym is)
nothing_there shown_by (inr (inr is)) = ap nothing_bytes (sym is)

pub returns-in-Page : goal.returns-in-Page
returns-in-Page g c = record {
  sends = subst (λ (bytes : List ℕ). Sends c.write_notice_page.result (g.W.Write.contents c.args.port.now.inner) (g.W.Write.contents c.write_notice_page.new.port.inner) bytes)
      (ap (λ (page : List ℕ). response_bytes 404 Page None page) c.not_here.ensures ∙ nothing_there c.args.showing c.in-Page.is)
      c.write_notice_page.ensures.sends;
  succeeds = c.write_notice_page.ensures.succeeds;
  fails = c.write_notice_page.ensures.fails;
}
