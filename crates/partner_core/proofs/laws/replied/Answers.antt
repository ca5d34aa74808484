use Rattle.partner_core.proofs.OnceEach.{replied_within, within_replied}
use Rattle.partner_core.proofs.laws.replied.Goals as goal

pub returns : goal.returns
returns g c = λ opening ds p k.
    (replied_within g.M.Machine.taken opening ds p k, λ within. within_replied g.M.Machine.taken opening ds p k within.0 within.1)
