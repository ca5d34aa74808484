use Rattle.std.specs.{Prelude.{◌==◌, None, Some, is_some}, Option.option_map, String.string_bytes, BTreeMap.get, Ordering.nat_cmp}
use Rattle.std.proofs.{Common.{arith, ◌≡◌, ℕ, ◌+◌, ◌≤◌, cond, take, vec_len, [], ◌∷◌, sym, ◌∙◌, ap}, lemmas.List.take-append-le}
use Rattle.partner_core.{specs.Numbered.{text_in, reply_in}, proofs.Keepings.{reply_in-push, with_number-past, takes_one_more}}
use Rattle.partner_core.proofs.runs.take_texts.Goals as goal

pub loop-text-preserved : goal.loop-text-preserved
loop-text-preserved g c =
    let taken = g.M.Machine.taken in
    let text = c.in-Some.text.now.items in
    let replies = c.loop-text.replies in
    let kept : get nat_cmp c.args.texts.now c.next_number.result ≡ Some c.in-Some.text.now = sym c.in-Some.ensures.value in
    let at : text_in c.args.texts.now (vec_len replies + 1) ≡ Some text =
    ap (text_in c.args.texts.now) (sym c.next_number.ensures) ∙ ap (option_map (λ t. t.items)) kept in
    let state : c.step.new.self ≡ (taken c.loop-text.machine c.args.partner text).0 =
    c.in_ok-reply.ensures.state ∙ ap (λ t. (taken c.loop-text.machine c.args.partner t).0) c.deref.ensures.value in
    let reply : string_bytes c.in_ok-reply.reply ≡ (taken c.loop-text.machine c.args.partner text).1 =
    c.in_ok-reply.ensures.reply ∙ ap (λ t. (taken c.loop-text.machine c.args.partner t).1) c.deref.ensures.value in
    let after : (k : ℕ) → reply_in c.push.new.self.items k ≡ cond (vec_len replies + 1 == k) (Some (taken c.loop-text.machine c.args.partner text).1) (reply_in replies.items k) =
    λ k. ap (λ items. reply_in items k) c.in_ok-push.ensures.items
    ∙ reply_in-push replies.items (vec_len replies) c.in_ok-reply.reply k replies.ok.0
    ∙ ap (λ r. cond (vec_len replies + 1 == k) (Some r) (reply_in replies.items k)) reply in
    let free : reply_in replies.items (vec_len replies + 1) ≡ None = ap (option_map string_bytes) (with_number-past replies.items (vec_len replies) replies.ok.0) in
    let limit : c.next_number.result ≤ 999999999 = c.requires.numbers c.next_number.result (ap is_some kept) in
    record {
      taken = rw (state, c.in_ok-push.ensures.len) (takes_one_more taken c.args.partner _ _ _ _ _ _ _ _ text c.loop-text.invariant.taken at free after);
      grows = omega arith;
      replied = omega arith;
      front =
          ap (take (vec_len c.args.replies.now)) c.in_ok-push.ensures.items
          ∙ take-append-le (vec_len c.args.replies.now) replies.items (c.in_ok-reply.reply ∷ []) (omega (arith, replies.ok.0))
          ∙ c.loop-text.invariant.front;
    }
