use Rattle.std.proofs.Common.{◌-◌, ◌<◌, ◌≤◌, length, map, take}
use Rattle.csv.specs.Records.{fields_of}
use Rattle.office_explain.specs.Wrong.{Shows}
use Rattle.office_explain.proofs.wrong_records.halved.Given as goal

abbrev pub decreases-loop-right : goal.decreases-loop-right
decreases-loop-right l = l.wrong - l.right

abbrev pub invariant-loop-right : goal.invariant-loop-right
invariant-loop-right l = record {
  order : l.right < l.wrong;
  within : l.wrong ≤ length l.texts;
  wrong : Shows l.file l.fault (map fields_of (take l.wrong l.texts));
  right : ¬ Shows l.file l.fault (map fields_of (take l.right l.texts));
}
