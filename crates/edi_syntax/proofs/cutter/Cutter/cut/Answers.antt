-- What was read of a piece is kept at once, or nothing is.
use Rattle.std.proofs.Common.{◌≡◌, ◌∙◌, ◌-◌, List, ℕ, length, take, drop, refl, sym, ap, subst, cond}
use Rattle.edi_syntax.specs.{Reading.breaks_len, Cuts.{Cutting, is_nil, is_whole, Fails}, declared.cutter.CutFault.CutFault}
use Rattle.edi_syntax.proofs.PieceLemmas.{Begins, begins_of, rest_of, faultless, answers_read, used_of, fails_read, read_of, refused_of, holds_of, running_of, answer_of}
use Rattle.edi_syntax.proofs.cutter.Cutter.cut.Goals as goal

-- the piece begins after the line breaks that were found
begins_at : (q held shown piece rest : List ℕ) (b : ℕ) → held ≡ q → shown ≡ held → breaks_len held ≡ 0 → b ≡ cond (is_nil shown) (breaks_len piece) 0 → rest ≡ take (length piece - b) (drop b piece) → Begins q piece rest b
begins_at q held shown piece rest b seen is none found rest_is =
    begins_of q piece rest b (ap breaks_len (sym seen) ∙ none)
    (found ∙ ap (λ (t : List ℕ). cond (is_nil t) (breaks_len piece) 0) (is ∙ seen))
    (rest_of piece rest b rest_is)

pub read_piece-requires-clause-going : goal.read_piece-requires-clause-going
read_piece-requires-clause-going c = ap is_whole (c.deref-2.ensures.value ∙ ap (λ (v : Cutting). v.text) c.self.view_is) ∙ c.requires.going

pub read_piece-requires-clause-begins : goal.read_piece-requires-clause-begins
read_piece-requires-clause-begins c =
    (begins_at c.deref-2.result.now c.self.inside.text.items c.deref.result.now c.args.piece.now _ c.breaks_before-breaks.result (sym c.deref-2.ensures.value) c.deref.ensures.value c.self.invariant.front c.breaks_before-breaks.ensures.found refl).begins

pub keep-requires : goal.keep-requires
keep-requires c =
    holds_of c.args.self.now.text c.deref-2.result.now _ c.in-Ok.used c.in-Ok.reading (c.deref-2.ensures.value ∙ ap (λ (v : Cutting). v.text) c.self.view_is) c.in-Ok.ensures.ok

pub returns-in-Ok-keep-clause-ok : goal.returns-in-Ok-keep-clause-ok
returns-in-Ok-keep-clause-ok c =
    let seen = ap (λ (v : Cutting). v.text) c.self.view_is in
    let begins = begins_at c.args.self.now.text c.self.inside.text.items c.deref.result.now c.args.piece.now _ c.breaks_before-breaks.result seen c.deref.ensures.value c.self.invariant.front c.breaks_before-breaks.ensures.found refl in
    answers_read c.args.self.now.text c.args.piece.now _ c.breaks_before-breaks.result c.in-Ok.used c.in-Ok.reading c.if_closed.result c.keep.new.self begins
    (read_of c.args.self.now.text c.deref-2.result.now _ c.in-Ok.used c.in-Ok.reading (c.deref-2.ensures.value ∙ seen) c.in-Ok.ensures.ok)
    c.requires.going
    (answer_of _ _ _ _ c.if_closed.ensures c.is_whole.ensures)
    (running_of c.keep.new.self _ _ c.in-Ok-keep.ensures.ok c.requires.running)

pub returns-in-Ok-keep-clause-used : goal.returns-in-Ok-keep-clause-used
returns-in-Ok-keep-clause-used c = used_of c.args.self.now.text c.args.piece.now c.keep.new.self c.if_closed.result (returns-in-Ok-keep-clause-ok c)

pub returns-in-Err-keep-clause-err : goal.returns-in-Err-keep-clause-err
returns-in-Err-keep-clause-err c =
    let seen = ap (λ (v : Cutting). v.text) c.self.view_is in
    let begins = begins_at c.args.self.now.text c.self.inside.text.items c.deref.result.now c.args.piece.now _ c.breaks_before-breaks.result seen c.deref.ensures.value c.self.invariant.front c.breaks_before-breaks.ensures.found refl in (
      c.in-Err-keep.ensures.err,
      faultless c.args.self.now.text c.args.piece.now _ c.breaks_before-breaks.result c.in-Ok.used c.in-Ok.reading begins
          (read_of c.args.self.now.text c.deref-2.result.now _ c.in-Ok.used c.in-Ok.reading (c.deref-2.ensures.value ∙ seen) c.in-Ok.ensures.ok),
    )

pub returns-in-Err-clause-err : goal.returns-in-Err-clause-err
returns-in-Err-clause-err c =
    let seen = ap (λ (v : Cutting). v.text) c.self.view_is in
    let begins = begins_at c.args.self.now.text c.self.inside.text.items c.deref.result.now c.args.piece.now _ c.breaks_before-breaks.result seen c.deref.ensures.value c.self.invariant.front c.breaks_before-breaks.ensures.found refl in
    subst (λ (f : CutFault). Fails c.args.self.now c.args.self.now.text c.args.piece.now c.stop.new.self f) (sym c.stop.ensures.same)
    (fails_read c.args.self.now c.args.self.now.text c.args.piece.now _ c.breaks_before-breaks.result c.stop.new.self c.in-Err.fault begins
    (refused_of c.args.self.now.text c.deref-2.result.now _ c.in-Err.fault (c.deref-2.ensures.value ∙ seen) c.in-Err.ensures.err)
    c.stop.ensures.stopped)
