use Rattle.std.proofs.Common.{◌≡◌, ◌++◌, map, take, string_bytes, flat_map}
use Rattle.office_pages.specs.Pieces.{piece_content, piece_text}
use Rattle.office_pages.proofs.pieces.push_pieces.Given as goal

abbrev pub invariant-loop-piece : goal.invariant-loop-piece
invariant-loop-piece l = string_bytes l.page ≡ string_bytes l.initial.page ++ flat_map piece_text (map piece_content (take l.piece-index l.pieces))
