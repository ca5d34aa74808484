use Rattle.std.proofs.Common.{refl}
use Rattle.office_http.proofs.line.Line.new.Goals as goal

pub returns : goal.returns
returns c =
    record {
      asking = _;
      is_asking = refl;
      placed = refl;
      accepted = refl;
      moved = refl;
      awake = refl;
      asked = c.new.ensures.items;
      wanted = refl;
    }
