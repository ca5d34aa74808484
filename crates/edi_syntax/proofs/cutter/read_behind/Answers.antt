-- The piece is read as far as an end, a refusal or the limit.
use Rattle.std.proofs.{Common.{◌∙◌, sym}, lemmas.Bool.true≢false}
use Rattle.edi_syntax.proofs.BehindLemmas.{reading_goes, scanned_of, room_lacks, room_is_there, refuses_behind, too_long_behind, reads_on_behind}
use Rattle.edi_syntax.proofs.cutter.read_behind.Goals.{else-not-stops-via-then-not-stops+else-within-piece, else-not-stops-via-else-not-stops}
use Rattle.edi_syntax.proofs.cutter.read_behind.Goals as goal

pub read_bytes-used-requires : goal.read_bytes-used-requires
read_bytes-used-requires c = reading_goes c.args.text.now c.args.reading c.requires.holds c.requires.going

pub returns-then-is_refused-clause-err : goal.returns-then-is_refused-clause-err
returns-then-is_refused-clause-err c =
    refuses_behind _ _ _ _ _ _
    (scanned_of c.args.text.now c.args.reading c.args.piece.now c.min.result _ _ c.requires.holds c.requires.going c.requires.past c.min.ensures c.read_bytes-used.ensures)
    (sym c.is_refused.ensures ∙ c.if-is_refused.true)

pub returns-then-within-piece-clause-err : goal.returns-then-within-piece-clause-err
returns-then-within-piece-clause-err c =
    let s = scanned_of c.args.text.now c.args.reading c.args.piece.now c.min.result _ _ c.requires.holds c.requires.going c.requires.past c.min.ensures c.read_bytes-used.ensures in
    too_long_behind _ _ _ _ _ _ s (sym c.stops.ensures ∙ c.if-not-stops.true)
    (room_lacks _ _ _ _ _ c.min.result _ s c.min.ensures c.if-within-piece.true)

pub returns-clause-ok : goal.returns-clause-ok
returns-clause-ok c =
    let s = scanned_of c.args.text.now c.args.reading c.args.piece.now c.min.result _ _ c.requires.holds c.requires.going c.requires.past c.min.ensures c.read_bytes-used.ensures in
    reads_on_behind _ _ _ _ _ _ s (sym c.is_refused.ensures ∙ c.if-is_refused.false)
    (λ goes. elim c.else-not-stops.branch [
      | else-not-stops-via-then-not-stops+else-within-piece w ↦ room_is_there _ _ _ _ _ c.min.result _ s c.min.ensures w.if-within-piece.false
      | else-not-stops-via-else-not-stops w ↦ absurd (true≢false (sym w.if-not-stops.false ∙ c.stops.ensures ∙ goes))
    ])
