-- The report on the partners (our own).
use Rattle.std.specs.{Prelude.{◌≡◌, ℕ, min, max, List, [], ◌∷◌, ◌++◌, length, sum_by, map, codes, decimal, string_bytes, Option, None, Some}, Option.option_map}
use Rattle.std.specs.{List.{flat_map, fold}, List.Sorted.IsPermutation}
use Rattle.edi_messages.specs.{declared.codes.PartnerKind.PartnerKind, declared.codes.PartnerKind.TheVariants.{Gate, Line, Quay, Yard}}
use Rattle.office_reports.specs.{Names.line, declared.partners.Partner.Partner, declared.partners.PartnerRow.PartnerRow, declared.partners.Waiting.Waiting}
use Rattle.office_reports.specs.declared.partners.PartnersReport.{PartnersReport}

-- a partner's code and what it is, the number that its next interchange has, and the numbers that wait for that one
pub record PartnerContent : Type 0 where
  pub code : List ℕ
  pub kind : PartnerKind
  pub next : ℕ
  pub waiting : List ℕ

abbrev pub kind_name : PartnerKind → List ℕ
kind_name Gate = codes "GATE"
kind_name Line = codes "LINE"
kind_name Quay = codes "QUAY"
kind_name Yard = codes "YARD"

-- ---- what the report tells

-- how many wait, and the least and the greatest of their numbers
pub record WaitingContent : Type 0 where
  pub count : ℕ
  pub first : ℕ
  pub last : ℕ

abbrev pub waiting_of : List ℕ → Option WaitingContent
waiting_of [] = None
waiting_of (first ∷ others) =
    Some (record { count = length (first ∷ others); first = fold min first others; last = fold max first others })

-- a partner, the number that is expected of it, and what waits for that, if something does
pub record PartnerRowContent : Type 0 where
  pub code : List ℕ
  pub kind : PartnerKind
  pub next : ℕ
  pub waiting : Option WaitingContent

abbrev pub row_of : PartnerContent → PartnerRowContent
row_of partner = record {
  code = partner.code;
  kind = partner.kind;
  next = partner.next;
  waiting = waiting_of partner.waiting;
}

-- how many wait
abbrev pub waiting_count : PartnerContent → ℕ
waiting_count partner = length partner.waiting

-- the partners, and how many interchanges wait of all of them
pub record PartnersContent : Type 0 where
  pub rows : List PartnerRowContent
  pub waiting : ℕ

abbrev pub partners_of : List PartnerContent → PartnersContent
partners_of partners = record { rows = map row_of partners; waiting = sum_by waiting_count partners }

-- ---- its text

-- WAITING k FROM a TO b MISSING n, if some wait: the first that is missing is the next
abbrev pub waiting_words : ℕ → Option WaitingContent → List (List ℕ)
waiting_words next None = []
waiting_words next (Some waiting) =
    codes "WAITING" ∷ decimal waiting.count ∷ codes "FROM" ∷ decimal waiting.first
    ∷ codes "TO" ∷ decimal waiting.last ∷ codes "MISSING" ∷ decimal next ∷ []

-- CODE KIND NEXT n, and what waits
abbrev pub row_line : PartnerRowContent → List ℕ
row_line row =
    line (row.code ∷ kind_name row.kind ∷ codes "NEXT" ∷ decimal row.next ∷ waiting_words row.next row.waiting)

abbrev pub partner_line : PartnerContent → List ℕ
partner_line partner = row_line (row_of partner)

-- n PARTNERS k WAITING
abbrev pub partners_end : PartnersContent → List ℕ
partners_end report =
    line (decimal (length report.rows) ∷ codes "PARTNERS" ∷ decimal report.waiting ∷ codes "WAITING" ∷ [])

abbrev pub rows_text : PartnersContent → List ℕ
rows_text report = line (codes "PARTNERS" ∷ []) ++ flat_map row_line report.rows ++ partners_end report

abbrev pub partners_text : List PartnerContent → List ℕ
partners_text partners = rows_text (partners_of partners)

-- ---- what doesn't count

-- one partner, whatever the order in which the numbers come that wait
pub record AreAlike (one other : PartnerContent) : Type 0 where
  pub code : one.code ≡ other.code
  pub kind : one.kind ≡ other.kind
  pub next : one.next ≡ other.next
  pub waiting : IsPermutation one.waiting other.waiting

-- ---- as the code has it

abbrev pub partner_content : Partner → PartnerContent
partner_content partner = record {
  code = string_bytes partner.code;
  kind = partner.kind;
  next = partner.next;
  waiting = partner.waiting.items;
}

abbrev pub waiting_content : Waiting → WaitingContent
waiting_content waiting = record { count = waiting.count; first = waiting.first; last = waiting.last }

abbrev pub row_content : PartnerRow → PartnerRowContent
row_content row = record {
  code = row.code.now;
  kind = row.kind;
  next = row.next;
  waiting = option_map waiting_content row.waiting;
}

abbrev pub partners_content : PartnersReport → PartnersContent
partners_content report = record { rows = map row_content report.rows.items; waiting = report.waiting }
