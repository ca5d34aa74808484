-- Answers to accounts that are to be added: their status, their body, and how bad they are.
use Rattle.std.specs.Prelude.{ℕ, List, codes, string_bytes}
use Rattle.serde_json.specs.{Data.{Data, number, unsigned, object, member, no_members}, Written.compact_text}
use Rattle.office_replies.specs.{Members.text_member, Refusals.named_refusal, declared.accounts.AccountAnswer.AccountAnswer, declared.deliver.Worst.Worst}
use Rattle.office_replies.specs.{declared.accounts.AccountAnswer.TheVariants.{Added, Known, Refused, NotNow}, declared.accounts.AccountFault.AccountFault}
use Rattle.office_replies.specs.declared.accounts.AccountFault.TheVariants as fault
use Rattle.office_replies.specs.declared.deliver.Worst.TheVariants as worst

abbrev pub account_fault_name : AccountFault → List ℕ
account_fault_name fault.Partner = codes "Partner"
account_fault_name fault.Kind = codes "Kind"
account_fault_name fault.Accounts = codes "Accounts"

-- 400 for what is no code or no kind, 409 for what the accounts don't leave room for
abbrev pub account_fault_status : AccountFault → ℕ
account_fault_status fault.Partner = 400
account_fault_status fault.Kind = 409
account_fault_status fault.Accounts = 409

abbrev pub account_refusal_text : AccountFault → List ℕ
account_refusal_text fault = named_refusal (account_fault_name fault)

-- the value whose JSON it is
abbrev pub account_refusal_data : AccountFault → Data
account_refusal_data fault =
    object
    (text_member (codes "answer") (codes "refused")
    (text_member (codes "fault") (account_fault_name fault) no_members))

abbrev pub account_data : List ℕ → ℕ → List ℕ → Data
account_data answer id partner =
    object (text_member (codes "answer") answer
    (member (codes "id") (number (unsigned id)) (text_member (codes "partner") partner no_members)))

unfoldable pub account_added_text : ℕ → List ℕ → List ℕ
account_added_text id partner = compact_text (account_data (codes "added") id partner)

unfoldable pub account_known_text : ℕ → List ℕ → List ℕ
account_known_text id partner = compact_text (account_data (codes "known") id partner)

abbrev pub account_status : AccountAnswer → ℕ
account_status (Added id body) = 200
account_status (Known id body) = 200
account_status (Refused fault) = account_fault_status fault
account_status NotNow = 503

abbrev pub account_body : AccountAnswer → List ℕ
account_body (Added id body) = string_bytes body
account_body (Known id body) = string_bytes body
account_body (Refused fault) = account_refusal_text fault
account_body NotNow = codes "{\"answer\":\"not now\"}"

abbrev pub account_worst : AccountAnswer → Worst
account_worst (Added id body) = worst.Fine
account_worst (Known id body) = worst.Fine
account_worst (Refused fault) = worst.Refused
account_worst NotNow = worst.NotNow
