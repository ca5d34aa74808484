-- A desk of a set-up that only says the same.
use Rattle.std.proofs.Common.{◌≡◌, ℕ, List, [], ◌∷◌, true, Option, Result, Ok, Err, IfOk, IfErr, OnOk, OnErr, refl, sym, ap, subst, ◌∙◌}
use Rattle.edi_messages.specs.Codes.{table_texts}
use Rattle.edi_syntax.specs.Interchange.{interchange_of}
use Rattle.office_replies.specs.{Delivering.LeadsOn, Events.Event, declared.deliver.Response.Response, declared.accounts.AccountAnswer.AccountAnswer}
use Rattle.office_replies.specs.declared.deliver.Response.TheVariants.{Taken, Repeat, Waiting, Clash, Refused, RefusedWithContrl, NotNow}
use Rattle.office_replies.specs.{declared.deliver.Worst.Worst, Accounts.{AnsweredAccount, AccountCutShort}, declared.port.Port.Port}
use Rattle.office_replies.specs.{declared.stream.StreamFault.StreamFault, declared.stream.StreamFault.TheVariants.Write}
use Rattle.office_admission.specs.{Accounts.account_answer, Refusals.MayBeNotNow, Setups.SetupContent}
use Rattle.office_history.{specs.After.{SaysSame, content_after}, proofs.Alike.{now_with_codes, parties_same, with_codes}}
use Rattle.office_desk.{specs.{Accounts.{AnswersAccount, Says}, Answers.AnswersNext}, proofs.OwnNumbers.{answers_alike, codes_after}}
use Rattle.office_commands.specs.Accounts.{AnswersAsked, LeavesWriter}

pub now_alike : (one other : SetupContent) → SaysSame one other → (es : List Event) → SaysSame (content_after one es) (content_after other es)
now_alike one other says es =
    let but_codes : one ≡ with_codes one.codes other =
    λ i. record { terminal = says.terminal i; codes = one.codes; partners = says.partners i; blocks = says.blocks i; visit_limit = says.limit i } in
    let now : content_after one es ≡ with_codes one.codes (content_after other es) =
    ap (λ (k : SetupContent). content_after k es) but_codes ∙ now_with_codes es other one.codes in
    let same : SaysSame (with_codes one.codes (content_after other es)) (content_after other es) =
    record { terminal = refl; codes = says.codes ∙ ap table_texts (sym (codes_after es other)); partners = refl; blocks = refl; limit = refl } in
    subst (λ (k : SetupContent). SaysSame k (content_after other es)) (sym now) same

-- ---- set-ups that say the same

module _ (one other : SetupContent) (says : SaysSame one other) where
  pub answer_alike : (es : List Event) (sent : List ℕ) (given : Response) → AnswersNext one es sent given → AnswersNext other es sent given
  answer_alike es sent (Taken body) is = is ∙ (answers_alike one other says es).answers sent
  answer_alike es sent (Repeat body) is = is ∙ (answers_alike one other says es).answers sent
  answer_alike es sent (Waiting body) is = is ∙ (answers_alike one other says es).answers sent
  answer_alike es sent (Clash body) is = is ∙ (answers_alike one other says es).answers sent
  answer_alike es sent (Refused fault) is = is ∙ (answers_alike one other says es).answers sent
  answer_alike es sent (RefusedWithContrl fault body) is = is ∙ (answers_alike one other says es).answers sent
  answer_alike es sent NotNow may = subst (λ parties. MayBeNotNow parties (interchange_of sent)) (parties_same (content_after one es) (content_after other es) (now_alike one other says es)) may

-- ---- what stands around an office

-- deliveries to what an office stands in are deliveries to the office
pub inner_leads : {W D : Type 0} (inner : W → D) (leads : D → List ℕ → Response → D → Type 0) (old : W) (texts : List (List ℕ)) (responses : List Response) (new : W)
    → LeadsOn (λ o text given n. leads (inner o) text given (inner n)) old texts responses new → LeadsOn leads (inner old) texts responses (inner new)
inner_leads inner leads old [] [] new same = ap inner same
inner_leads inner leads old [] (given ∷ responses) new none = absurd none
inner_leads inner leads old (text ∷ texts) [] new none = absurd none
inner_leads inner leads old (text ∷ texts) (given ∷ responses) new (next, led, rest) = (inner next, led, inner_leads inner leads next texts responses new rest)

-- from what an office was to what it is, by whatever stood around it
pub delivered_by : {W D : Type 0} (inner : W → D) (leads : D → List ℕ → Response → D → Type 0) (first last : W) (opened end : D) → inner first ≡ opened → end ≡ inner last
    → (texts : List (List ℕ)) (responses : List Response) → LeadsOn (λ o text given n. leads (inner o) text given (inner n)) first texts responses last → LeadsOn leads opened texts responses end
delivered_by {W} {D} inner leads first last opened end begins ends texts responses led =
    subst (λ (at : D). LeadsOn leads opened texts responses at) (sym ends)
    (subst (λ (at : D). LeadsOn leads at texts responses (inner last)) begins (inner_leads inner leads first texts responses last led))

-- ---- accounts

module _ (one other : SetupContent) (says : SaysSame one other) where
  pub account_alike : (es : List Event) (code kind : List ℕ) (answer : AccountAnswer) → AnswersAccount one es code kind answer → AnswersAccount other es code kind answer
  account_alike es code kind answer =
      subst (λ (partners : List _). Says (account_answer partners code kind) code answer) (now_alike one other says es).partners

-- its line, or a front of it
asked_as : (Done Other : AccountAnswer → Type 0) → ((answer : AccountAnswer) → Done answer → Other answer) → (written written' : Option (List ℕ)) (outcome : Result Worst StreamFault)
    → IfOk outcome (λ worst. AnsweredAccount Done worst written written') → OnErr outcome (AccountCutShort Done written written') → AnswersAsked Other written written' outcome
asked_as Done Other on written written' (Ok worst) answered cut =
    record { answer = answered.answer; done = on answered.answer answered.done; is_worst = answered.is_worst; writes = answered.writes }
asked_as Done Other on written written' (Err fault) answered cut =
    record { answer = cut.answer; done = on cut.answer cut.done; writes = cut.writes }

-- What was done is taken as it is said, and only then for what it is of this office: the two are long to compare.
pub as_said : (Done : AccountAnswer → Type 0) (written written' : Option (List ℕ)) (outcome : Result Worst StreamFault) → IfOk outcome (λ worst. AnsweredAccount Done worst written written')
    → OnErr outcome (AccountCutShort Done written written') → (Other : AccountAnswer → Type 0) → ((answer : AccountAnswer) → Done answer → Other answer) → AnswersAsked Other written written' outcome
as_said Done written written' outcome answered cut Other on = asked_as Done Other on written written' outcome answered cut

-- what the writer has noted
pub writer_by : {W : Type 0} (old new : Port W) (outcome : Result Worst StreamFault) → OnOk outcome (new.failed ≡ old.failed) → OnOk outcome (new.flushed ≡ true)
    → IfErr outcome (λ fault. (fault ≡ Write) × (new.failed ≡ true)) → LeavesWriter old new outcome
writer_by old new (Ok worst) kept flushed failed = (kept, flushed)
writer_by old new (Err fault) kept flushed failed = failed.1
