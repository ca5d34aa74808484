-- A stream as the interchanges that are cut out of it, and what is done with them.
use Rattle.std.specs.{Prelude.{◌≡◌, ◌≢◌, ◌⊎◌, ℕ, List, [], ◌∷◌, ◌++◌, Option, Result, Ok, Err}, Io.KnownBytes.{Consumes, Appends, IsAtEnd}}
use Rattle.edi_syntax.specs.{Cuts.{IsPending, Faults, HasNoFault}, Streams.CutsFrom, declared.cutter.CutFault.CutFault}
use Rattle.edi_syntax.specs.declared.cutter.CutFault.TheVariants.{TooLong, Service, Segment, Memory}
use Rattle.office_replies.specs.{declared.deliver.Response.Response, declared.deliver.Worst.Worst, Responses.{body_of, worse_of}, Fronts.IsFront}
use Rattle.office_replies.specs.{StreamLines.{line, end_text, end_worst, response_lines, worst_of_all}, declared.stream.StreamEnd.StreamEnd}
use Rattle.office_replies.specs.{declared.stream.StreamEnd.TheVariants.{Whole, Open, Cut}, declared.stream.StreamFault.StreamFault}
use Rattle.office_replies.specs.declared.stream.StreamFault.TheVariants.{Read, Write, Turns}

-- ---- cutting

-- with a fault at one of the bytes, and none before
abbrev pub IsCutBy : CutFault → List ℕ → Type 0
IsCutBy fault rest = (front behind : List ℕ) × Faults front fault × (rest ≡ front ++ behind)

-- with anything
abbrev pub GoesOnAnyhow : List ℕ → Type 0
GoesOnAnyhow rest = Unit {0}

-- How a stream ends, by what is left over. If memory is wanting it has no fault before an interchange would end.
abbrev pub EndsAs : StreamEnd → List ℕ → Type 0
EndsAs Whole rest = rest ≡ []
EndsAs Open rest = IsPending rest × (rest ≢ [])
EndsAs (Cut TooLong) rest = IsCutBy TooLong rest
EndsAs (Cut Service) rest = IsCutBy Service rest
EndsAs (Cut Segment) rest = IsCutBy Segment rest
EndsAs (Cut Memory) rest = HasNoFault rest

-- these are the interchanges of a stream, and so it ends
abbrev pub Cuts : List ℕ → List (List ℕ) → StreamEnd → Type 0
Cuts stream texts end = CutsFrom (EndsAs end) stream texts

-- A stream has one list of interchanges and one end, unless memory runs out. So both depend only on the stream,
-- however it comes in pieces.
abbrev pub CutsAreOne : Type 0
CutsAreOne =
    (stream : List ℕ) (texts texts' : List (List ℕ)) (end end' : StreamEnd) → end ≢ Cut Memory → end' ≢ Cut Memory
    → Cuts stream texts end → Cuts stream texts' end' → (texts ≡ texts') × (end ≡ end')

-- the stream was read to its end, or it is cut
abbrev pub ReadsTo : StreamEnd → Option (List ℕ) → Type 0
ReadsTo Whole left = IsAtEnd left
ReadsTo Open left = IsAtEnd left
ReadsTo (Cut fault) left = Unit {0}

-- ---- what is done with a stream

-- what a reader has left and a writer has been given, before and after
pub record PortBytes : Type 0 where
  pub left_before : Option (List ℕ)
  pub left_after : Option (List ℕ)
  pub written_before : Option (List ℕ)
  pub written_after : Option (List ℕ)

abbrev pub port_bytes : (left left' written written' : Option (List ℕ)) → PortBytes
port_bytes left left' written written' =
    record { left_before = left; left_after = left'; written_before = written; written_after = written' }

-- The bytes that were read are cut to their end, each interchange answered by its line, and the end by the cut line.
pub record Streamed (Done : List (List ℕ) → List Response → Type 0) (ports : PortBytes) (worst : Worst) : Type 0 where
  pub bytes : List ℕ
  pub texts : List (List ℕ)
  pub responses : List Response
  pub end : StreamEnd
  pub reads : Consumes ports.left_before ports.left_after bytes
  pub ended : ReadsTo end ports.left_after
  pub cuts : Cuts bytes texts end
  pub done : Done texts responses
  pub writes : Appends ports.written_before ports.written_after (response_lines responses ++ end_text end)
  pub is_worst : worst ≡ worse_of (worst_of_all responses) (end_worst end)

-- All interchanges of the bytes that were read were answered by their lines, and less than one is left over.
pub record Began (Done : List (List ℕ) → List Response → Type 0) (ports : PortBytes) : Type 0 where
  pub bytes : List ℕ
  pub texts : List (List ℕ)
  pub responses : List Response
  pub reads : Consumes ports.left_before ports.left_after bytes
  pub cuts : CutsFrom IsPending bytes texts
  pub done : Done texts responses
  pub writes : Appends ports.written_before ports.written_after (response_lines responses)

-- ---- a write that failed

-- A stream begins with these interchanges, and each of them was answered. A front of the last one's line was written,
-- after the lines of those before.
pub record LineCutShort (Done : List (List ℕ) → List Response → Type 0) (stream : List ℕ)
    (written written' : Option (List ℕ)) : Type 0 where
  pub texts : List (List ℕ)
  pub last : List ℕ
  pub responses : List Response
  pub response : Response
  pub part : List ℕ
  pub cuts : CutsFrom GoesOnAnyhow stream (texts ++ last ∷ [])
  pub done : Done (texts ++ last ∷ []) (responses ++ response ∷ [])
  pub front : IsFront part (line (body_of response))
  pub writes : Appends written written' (response_lines responses ++ part)

-- A stream is cut to its end, and each interchange answered by its line. A front of the cut line was written after
-- them.
pub record EndCutShort (Done : List (List ℕ) → List Response → Type 0) (stream : List ℕ) (ports : PortBytes)
    : Type 0 where
  pub texts : List (List ℕ)
  pub responses : List Response
  pub end : StreamEnd
  pub part : List ℕ
  pub ended : ReadsTo end ports.left_after
  pub cuts : Cuts stream texts end
  pub done : Done texts responses
  pub front : IsFront part (end_text end)
  pub writes : Appends ports.written_before ports.written_after (response_lines responses ++ part)

-- A write failed. The line of an interchange of what was read was cut short, or the cut line, and nothing was done
-- after it.
pub record Delivered (Done : List (List ℕ) → List Response → Type 0) (ports : PortBytes) : Type 0 where
  pub bytes : List ℕ
  pub reads : Consumes ports.left_before ports.left_after bytes
  pub cut_short : LineCutShort Done bytes ports.written_before ports.written_after ⊎ EndCutShort Done bytes ports

-- ---- however it came out

-- That was done with each interchange of what was read, and its line written, as far as the stream came.
abbrev pub Streams : (Done : List (List ℕ) → List Response → Type 0) → PortBytes → Result Worst StreamFault → Type 0
Streams Done ports (Ok worst) = Streamed Done ports worst
Streams Done ports (Err Read) = Began Done ports
Streams Done ports (Err Write) = Delivered Done ports
Streams Done ports (Err Turns) = Began Done ports
