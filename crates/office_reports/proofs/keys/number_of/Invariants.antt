use Rattle.std.{specs.{List.list_all, Str.Parse.digits_value}, proofs.Common.{◌≡◌, ◌^◌, ◌<◌, take, true}}
use Rattle.edi_syntax.specs.Characters.{is_digit}
use Rattle.office_reports.proofs.keys.number_of.Given as goal

abbrev pub invariant-loop-byte : goal.invariant-loop-byte
invariant-loop-byte l = record {
  digits : list_all is_digit (take l.byte-index l.digits) ≡ true;
  number : l.number ≡ digits_value 10 (take l.byte-index l.digits);
  small : l.number < 10 ^ l.byte-index;
}
