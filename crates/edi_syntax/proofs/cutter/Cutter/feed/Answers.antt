-- The piece comes after what is pending, or begins anew after a whole interchange.
use Rattle.std.proofs.Common.{◌∙◌, sym, ap, subst, List, ℕ, IfOk, IfErr, true, false}
use Rattle.edi_syntax.{specs.Cuts.{Cutting, is_whole, pending_bytes, Answers, Fails}, proofs.PositionLemmas.whole_seen}
use Rattle.edi_syntax.proofs.CutLemmas.{nothing_open, pending_open, pending_whole, answers_anew, fails_anew, stays}
use Rattle.edi_syntax.proofs.cutter.Cutter.feed.Goals as goal

pub cut-requires-clause-going : goal.cut-requires-clause-going
cut-requires-clause-going c =
    whole_seen c.self.inside.text.items c.self.inside.reading c.args.self.now false
    (record { holds = c.self.invariant; seen = ap (λ (v : Cutting). v.text) c.self.view_is; found = sym c.is_whole.ensures ∙ c.if-not-is_whole.true })

pub returns-then-not-is_whole-clause-ok : goal.returns-then-not-is_whole-clause-ok
returns-then-not-is_whole-clause-ok c running =
    let open_ = whole_seen c.self.inside.text.items c.self.inside.reading c.args.self.now false
    (record { holds = c.self.invariant; seen = ap (λ (v : Cutting). v.text) c.self.view_is; found = sym c.is_whole.ensures ∙ c.if-not-is_whole.true }) in
    subst (λ (q : List ℕ). IfOk c.cut.result (λ answer. Answers q c.args.piece.now c.cut.new.self answer)) (sym (pending_open c.args.self.now open_)) c.cut.ensures.ok

pub returns-then-not-is_whole-clause-err : goal.returns-then-not-is_whole-clause-err
returns-then-not-is_whole-clause-err c running =
    let open_ = whole_seen c.self.inside.text.items c.self.inside.reading c.args.self.now false
    (record { holds = c.self.invariant; seen = ap (λ (v : Cutting). v.text) c.self.view_is; found = sym c.is_whole.ensures ∙ c.if-not-is_whole.true }) in
    subst (λ (q : List ℕ). IfErr c.cut.result (λ fault. Fails c.args.self.now q c.args.piece.now c.cut.new.self fault)) (sym (pending_open c.args.self.now open_)) c.cut.ensures.err

pub cut-requires-2-clause-going : goal.cut-requires-2-clause-going
cut-requires-2-clause-going c = ap (λ (v : Cutting). is_whole v.text) c.new-next.ensures ∙ nothing_open

pub returns-in-Ok-clause-ok : goal.returns-in-Ok-clause-ok
returns-in-Ok-clause-ok c running =
    let whole = whole_seen c.self.inside.text.items c.self.inside.reading c.args.self.now true
    (record { holds = c.self.invariant; seen = ap (λ (v : Cutting). v.text) c.self.view_is; found = sym c.is_whole.ensures ∙ c.if-not-is_whole.false }) in
    answers_anew (pending_bytes c.args.self.now) c.new-next.result.text c.args.piece.now _ c.cut-2.new.self c.in-Ok.answer
    (pending_whole c.args.self.now whole ∙ sym (ap (λ (v : Cutting). v.text) c.new-next.ensures)) c.next.view_is c.in-Ok.ensures.ok

pub returns-else-is_memory-clause-err : goal.returns-else-is_memory-clause-err
returns-else-is_memory-clause-err c running =
    let whole = whole_seen c.self.inside.text.items c.self.inside.reading c.args.self.now true
    (record { holds = c.self.invariant; seen = ap (λ (v : Cutting). v.text) c.self.view_is; found = sym c.is_whole.ensures ∙ c.if-not-is_whole.false }) in
    fails_anew c.args.self.now c.new-next.result (pending_bytes c.args.self.now) c.new-next.result.text c.args.piece.now _ c.cut-2.new.self c.in-Err.fault
    (sym c.is_memory.ensures ∙ c.if-is_memory.false)
    (pending_whole c.args.self.now whole ∙ sym (ap (λ (v : Cutting). v.text) c.new-next.ensures)) c.next.view_is c.in-Err.ensures.err

pub returns-then-is_memory-clause-err : goal.returns-then-is_memory-clause-err
returns-then-is_memory-clause-err c running =
    let whole = whole_seen c.self.inside.text.items c.self.inside.reading c.args.self.now true
    (record { holds = c.self.invariant; seen = ap (λ (v : Cutting). v.text) c.self.view_is; found = sym c.is_whole.ensures ∙ c.if-not-is_whole.false }) in
    stays c.args.self.now c.new-next.result (pending_bytes c.args.self.now) c.new-next.result.text c.args.piece.now c.cut-2.new.self c.in-Err.fault
    (sym c.is_memory.ensures ∙ c.if-is_memory.true)
    (pending_whole c.args.self.now whole ∙ sym (ap (λ (v : Cutting). v.text) c.new-next.ensures)) c.in-Err.ensures.err
