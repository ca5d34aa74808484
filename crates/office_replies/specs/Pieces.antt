-- What is done with a piece of a stream: what the code relies on, and no caller has to read.
use Rattle.std.specs.{Prelude.{◌≡◌, ℕ, List, Option, None, Some}, Io.KnownBytes.Appends}
use Rattle.edi_syntax.specs.{Cuts.IsPending, declared.cutter.CutFault.CutFault, Streams.CutsFrom}
use Rattle.office_replies.specs.{declared.deliver.Response.Response, declared.deliver.Worst.Worst, Responses.{body_of, worst_of, worse_of}, Delivering.LeadsOn}
use Rattle.office_replies.specs.{declared.stream.StreamEnd.TheVariants.Cut, Fronts.AppendsFront, StreamLines.{line, response_lines, worst_of_all}}
use Rattle.office_replies.specs.Streams.{EndsAs}

-- one interchange was delivered, and its line written
pub record AnsweredOne {D : Type 0} (Call : D → List ℕ → Response → D → Type 0) (old : D) (text : List ℕ) (new : D)
    (worst : Worst) (written written' : Option (List ℕ)) : Type 0 where
  pub response : Response
  pub call : Call old text response new
  pub is_worst : worst ≡ worst_of response
  pub writes : Appends written written' (line (body_of response))

-- one interchange was delivered, and a front of its line written
pub record DeliveredOne {D : Type 0} (Call : D → List ℕ → Response → D → Type 0) (old : D) (text : List ℕ) (new : D)
    (written written' : Option (List ℕ)) : Type 0 where
  pub response : Response
  pub call : Call old text response new
  pub writes : AppendsFront written written' (line (body_of response))

-- these bytes, which are less than an interchange
abbrev pub LeavesOver : List ℕ → List ℕ → Type 0
LeavesOver pending rest = (rest ≡ pending) × IsPending pending

-- a piece is used up but for what is pending, or the stream can't be cut further
abbrev pub EndsPiece : Option CutFault → List ℕ → List ℕ → Type 0
EndsPiece None pending rest = LeavesOver pending rest
EndsPiece (Some fault) pending rest = EndsAs (Cut fault) rest

-- Each of the interchanges with which a stream begins was delivered, and its line written. What is left over ends so.
pub record PieceAnswered {D : Type 0} (Call : D → List ℕ → Response → D → Type 0) (old : D) (Ends : List ℕ → Type 0)
    (stream : List ℕ) (new : D) (before worst : Worst) (written written' : Option (List ℕ)) : Type 0 where
  pub texts : List (List ℕ)
  pub responses : List Response
  pub cuts : CutsFrom Ends stream texts
  pub calls : LeadsOn Call old texts responses new
  pub is_worst : worst ≡ worse_of before (worst_of_all responses)
  pub writes : Appends written written' (response_lines responses)
