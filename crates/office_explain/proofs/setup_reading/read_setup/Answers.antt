use Rattle.std.proofs.{lemmas.Result.IfOk-weaker, Common.map}
use Rattle.csv.specs.Records.{fields_of}
use Rattle.office_admission.specs.{Given.IsGiven, Setups.setup_content}
use Rattle.office_explain.{specs.Said.SaysSetup, proofs.Givens.given}
use Rattle.office_explain.proofs.setup_reading.read_setup.Goals as goal

pub returns-clause-given : goal.returns-clause-given
returns-clause-given c =
    IfOk-weaker c.setup_in.result (λ setup. SaysSetup (map fields_of c.in-Ok.partner_rows.items) (map fields_of c.in-Ok-read_rows.block_rows.items) (setup_content setup)) (λ setup. IsGiven (setup_content setup)) (λ setup says. given (map fields_of c.in-Ok.partner_rows.items) (map fields_of c.in-Ok-read_rows.block_rows.items) (setup_content setup) says) c.setup_in.ensures.ok
