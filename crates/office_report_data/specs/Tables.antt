-- How rows are comma-separated values: records (RFC 4180) with LF at the end of each.
use Rattle.std.specs.{Prelude.{◌≡◌, ℕ, List, ◌++◌, Vec, false}, List.flat_map, declared.alloc.Global.Global}
use Rattle.csv.specs.Writing.{default_writer, row_text, writer_setup, writer_under, writer_pending, fields_written, has_written}
use Rattle.csv.specs.declared.writer.Writer.{Writer}

-- fields with commas between them, in quotes where a field needs them, and LF
abbrev pub record_text : List (List ℕ) → List ℕ
record_text fields = row_text default_writer fields

-- a header, and a record for each row
abbrev pub table_text : {X : Type 0} → List (List ℕ) → (X → List (List ℕ)) → List X → List ℕ
table_text header fields rows = record_text header ++ flat_map (λ row. record_text (fields row)) rows

-- ---- the writer

-- what a writer over memory has been given
abbrev pub written_rows : Writer (Vec ℕ Global) → List ℕ
written_rows writer = (writer_under writer).items ++ writer_pending writer

-- a writer with the crate's defaults, at the start of a record
pub record IsBetweenRecords (writer : Writer (Vec ℕ Global)) : Type 0 where
  pub setup : writer_setup writer ≡ default_writer
  pub fields : fields_written writer ≡ 0
  pub wrote : has_written writer ≡ false

-- it has been given these bytes, and stands at the start of a record
pub record HasGiven (writer : Writer (Vec ℕ Global)) (bytes : List ℕ) : Type 0 where
  pub between : IsBetweenRecords writer
  pub text : written_rows writer ≡ bytes
