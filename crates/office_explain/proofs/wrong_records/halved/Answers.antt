use Rattle.std.proofs.Common.{arith}
use Rattle.csv.specs.Records.{fields_of}
use Rattle.office_explain.{specs.Wrong.Shows, proofs.Wrong.brought}
use Rattle.office_explain.proofs.wrong_records.halved.Goals as goal

pub returns : goal.returns
returns c =
    let inv = c.loop-right.invariant in
    let order = inv.order in
    let test = c.loop-right-test.false in
    brought (Shows c.args.file c.args.fault) fields_of c.args.texts.now c.loop-right.right c.loop-right.wrong order (omega (arith, order, test)) inv.within inv.wrong inv.right
