-- Where pages are: `/pages` and the path of the report.
use Rattle.std.specs.Prelude.{ℕ, List, ◌++◌, codes}
use Rattle.percent_encoding.specs.{Percent.percent_encode, declared.ascii_set.TheConstants.NON_ALPHANUMERIC}

-- a part of a path: letters and digits stand for themselves, another byte is written as `%` and two digits
abbrev pub part : List ℕ → List ℕ
part bytes = percent_encode NON_ALPHANUMERIC bytes

abbrev pub container_address : List ℕ → List ℕ
container_address box = codes "/pages/containers/" ++ part box
