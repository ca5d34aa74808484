use Rattle.office_rows.proofs.Creating.{if_ok}
use Rattle.office_admission.specs.Setups.{setup_content}
use Rattle.office_commands.proofs.DemoGiven.{demo_given}
use Rattle.office_commands.proofs.demo.open_demo.Goals as goal

pub returns : goal.returns
returns c =
    let content = setup_content c.in_ok-setup.setup in
    let demo = c.in_ok-setup.ensures in
    if_ok c.open_desk.result (λ desk opens. record { content = content; is_demo = demo; opens = opens (demo_given content demo) }) c.open_desk.ensures.opens
