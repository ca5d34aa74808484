use Rattle.std.{specs.{List.list_all, Str.Parse.digits_value}, proofs.Common.{◌≡◌, ◌++◌, ◌≤◌, ◌<◌, ◌^◌, length, true}}
use Rattle.edi_syntax.specs.{Characters.is_digit, Segment.{value, bytes_left}}
use Rattle.edi_syntax.proofs.head.number_of.Given as goal

abbrev pub invariant-loop-byte : goal.invariant-loop-byte
invariant-loop-byte l = record {
  passed : value l.fn.component ≡ l.yielded ++ bytes_left l.byte-iterator;
  counted : length l.yielded ≡ l.len;
  few : l.len ≤ l.limit;
  digits : list_all is_digit l.yielded ≡ true;
  number : l.number ≡ digits_value 10 l.yielded;
  small : l.number < 10 ^ l.len;
}
