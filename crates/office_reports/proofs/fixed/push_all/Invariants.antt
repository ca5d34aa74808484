use Rattle.std.proofs.Common.{◌≡◌, ◌++◌, drop, map, string_bytes}
use Rattle.office_reports.specs.Fields.{joined_pieces}
use Rattle.office_reports.proofs.fixed.push_all.Given as goal

abbrev pub invariant-loop-piece : goal.invariant-loop-piece
invariant-loop-piece l = string_bytes l.text ++ joined_pieces (map (λ piece. piece.now) (drop l.piece-index l.pieces)) ≡ string_bytes l.initial.text ++ joined_pieces (map (λ piece. piece.now) l.pieces)
