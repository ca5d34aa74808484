-- The lines that a stream is answered by.
use Rattle.std.specs.Prelude.{ℕ, List, [], ◌∷◌, ◌++◌, codes, flat_map}
use Rattle.edi_syntax.specs.{Bytes.line_feed, declared.cutter.CutFault.CutFault, declared.cutter.CutFault.TheVariants.{TooLong, Service, Segment, Memory}}
use Rattle.office_replies.specs.{declared.deliver.Response.Response, declared.deliver.Worst.Worst, declared.deliver.Worst.TheVariants.{Fine, Refused, NotNow}}
use Rattle.office_replies.specs.{Responses.{body_of, worst_of, worse_of}, declared.stream.StreamEnd.StreamEnd}
use Rattle.office_replies.specs.declared.stream.StreamEnd.TheVariants.{Whole, Open, Cut}

-- a text and LF
abbrev pub line : List ℕ → List ℕ
line text = text ++ line_feed ∷ []

abbrev pub fault_name : CutFault → List ℕ
fault_name TooLong = codes "TooLong"
fault_name Service = codes "Service"
fault_name Segment = codes "Segment"
fault_name Memory = codes "Memory"

abbrev pub cut_body : List ℕ → List ℕ
cut_body name = codes "{\"answer\":\"cut\",\"fault\":\"" ++ name ++ codes "\"}"

-- what is written after the last answer
abbrev pub end_text : StreamEnd → List ℕ
end_text Whole = []
end_text Open = line (cut_body (codes "End"))
end_text (Cut fault) = line (cut_body (fault_name fault))

-- a line for each answer
abbrev pub response_lines : List Response → List ℕ
response_lines responses = flat_map (λ response. line (body_of response)) responses

-- a cut counts as a refusal, and one for lack of memory as NotNow
abbrev pub fault_worst : CutFault → Worst
fault_worst TooLong = Refused
fault_worst Service = Refused
fault_worst Segment = Refused
fault_worst Memory = NotNow

abbrev pub end_worst : StreamEnd → Worst
end_worst Whole = Fine
end_worst Open = Refused
end_worst (Cut fault) = fault_worst fault

-- the worst of the answers, Fine if there is none
abbrev pub worst_of_all : List Response → Worst
worst_of_all [] = Fine
worst_of_all (response ∷ responses) = worse_of (worst_of response) (worst_of_all responses)
