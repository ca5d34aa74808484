use Rattle.std.proofs.Common.{◌≡◌, ◌++◌, ℕ, List, None, length, true}
use Rattle.edi_syntax.specs.Cuts.{pending_bytes}
use Rattle.office_replies.{specs.{Pieces.PieceAnswered, Places.Follows}, proofs.{PieceLemmas.IsLeft, PlaceLemmas.Followed}}
use Rattle.office_replies.proofs.stream.answer_piece.Given as goal

abbrev pub invariant-pieces : goal.invariant-pieces
invariant-pieces g l = record {
  running : l.cutter.fault ≡ None;
  kept : l.writer.failed ≡ l.fn.writer.failed;
  flushed : l.fn.writer.flushed ≡ true → l.writer.flushed ≡ true;
  done : PieceAnswered g.D.Deliver.leads l.fn.desk (IsLeft (pending_bytes l.cutter) l.rest)
      (pending_bytes l.fn.cutter ++ l.piece) l.desk l.fn.before l.worst (g.W.Write.contents l.fn.writer.inner) (g.W.Write.contents l.writer.inner);
  placed : (bytes : List ℕ) → Follows l.fn.place bytes (pending_bytes l.fn.cutter) → Followed l.place bytes l.piece l.rest (pending_bytes l.cutter);
}

abbrev pub decreases-pieces : goal.decreases-pieces
decreases-pieces g l = length l.rest
