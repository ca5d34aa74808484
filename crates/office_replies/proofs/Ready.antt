-- A body that stands ready as text is the JSON of its value.
use Rattle.std.proofs.Common.{◌≡◌, ◌≢◌, ℕ, List, ◌∷◌, [], refl}
use Rattle.serde_json.{specs.Written.compact_text, proofs.OnLiterals.serde_json_on_literals}
use Rattle.office_replies.specs.{declared.deliver.Fault.Fault, declared.deliver.Response.TheVariants.{Refused, NotNow}, Bodies.not_now_data, Responses.body_of}
use Rattle.office_replies.specs.{declared.accounts.AccountFault.AccountFault, AccountAnswers.{account_refusal_text, account_refusal_data}}
use Rattle.office_replies.specs.{Refusals.{refusal_text, refusal_data}, Messages.{ReportContent, reply_content_text}}
use Rattle.edi_syntax.specs.declared.interchange.SyntaxFault.TheVariants as syntax
use Rattle.office_replies.specs.declared.deliver.Fault.TheVariants as fault
use Rattle.office_replies.specs.declared.accounts.AccountFault.TheVariants as account

pub refusal_text-data : (fault : Fault) → refusal_text fault ≡ compact_text (refusal_data fault)
unfolding serde_json_on_literals
refusal_text-data (fault.Syntax syntax.TooLong) = refl
refusal_text-data (fault.Syntax syntax.Service) = refl
refusal_text-data (fault.Syntax syntax.Segment) = refl
refusal_text-data (fault.Syntax syntax.NoEnvelope) = refl
refusal_text-data (fault.Syntax syntax.Group) = refl
refusal_text-data (fault.Syntax syntax.Version) = refl
refusal_text-data (fault.Syntax syntax.Number) = refl
refusal_text-data (fault.Syntax syntax.Moment) = refl
refusal_text-data (fault.Syntax syntax.Test) = refl
refusal_text-data (fault.Syntax syntax.MessageFrame) = refl
refusal_text-data (fault.Syntax syntax.SegmentCount) = refl
refusal_text-data (fault.Syntax syntax.MessageReference) = refl
refusal_text-data (fault.Syntax syntax.Empty) = refl
refusal_text-data (fault.Syntax syntax.ControlCount) = refl
refusal_text-data (fault.Syntax syntax.ControlReference) = refl
refusal_text-data fault.UnknownSender = refl
refusal_text-data fault.WrongRecipient = refl

pub refused_body-data : (fault : Fault) → body_of (Refused fault) ≡ compact_text (refusal_data fault)
refused_body-data fault = refusal_text-data fault

pub account_refusal-data : (fault : AccountFault) → account_refusal_text fault ≡ compact_text (account_refusal_data fault)
unfolding serde_json_on_literals
account_refusal-data account.Partner = refl
account_refusal-data account.Kind = refl
account_refusal-data account.Accounts = refl

pub not_now_body-data : body_of NotNow ≡ compact_text not_now_data
unfolding serde_json_on_literals
not_now_body-data = refl

some_not_empty : (first : ℕ) (rest : List ℕ) → first ∷ rest ≢ []
some_not_empty first rest e = absurd cc

-- a reply is an object, which begins with its brace
pub reply_is_some : (contrl : List ℕ) (reports : List ReportContent) → reply_content_text contrl reports ≢ []
unfolding reply_content_text serde_json_on_literals
reply_is_some contrl reports = some_not_empty _ _
