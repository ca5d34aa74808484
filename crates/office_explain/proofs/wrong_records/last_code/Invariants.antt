use Rattle.std.proofs.Common.{◌≤◌, map}
use Rattle.csv.specs.Records.{fields_of}
use Rattle.office_explain.specs.{Wrong.{Brings, Shows}, declared.setup_reading.SetupFault.TheVariants.Code}
use Rattle.office_explain.proofs.wrong_records.last_code.Given as goal

abbrev pub invariant-loop-index : goal.invariant-loop-index
invariant-loop-index l = record {
  few : l.codes ≤ 8;
  brings : Brings (Shows l.file Code) (map fields_of l.texts) l.wrong;
}
