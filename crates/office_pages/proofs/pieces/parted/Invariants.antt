use Rattle.std.proofs.Common.{◌≡◌, ◌++◌, length}
use Rattle.office_pages.specs.Pieces.{parted}
use Rattle.office_pages.proofs.pieces.parted.Given as goal

abbrev pub invariant-digits : goal.invariant-digits
invariant-digits l = l.text.items ++ parted l.rest ≡ parted l.digits

abbrev pub decreases-digits : goal.decreases-digits
decreases-digits l = length l.rest
