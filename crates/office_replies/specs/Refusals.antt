-- The bodies of refusals that carry no CONTRL.
use Rattle.std.specs.Prelude.{ℕ, List, ◌++◌, codes}
use Rattle.serde_json.specs.Data.{Data, object, no_members}
use Rattle.office_replies.specs.{Names.fault_name, Members.text_member, declared.deliver.Fault.Fault}

abbrev pub named_refusal : List ℕ → List ℕ
named_refusal name = codes "{\"answer\":\"refused\",\"fault\":\"" ++ name ++ codes "\"}"

abbrev pub refusal_text : Fault → List ℕ
refusal_text fault = named_refusal (fault_name fault)

-- the value whose JSON it is
abbrev pub refusal_data : Fault → Data
refusal_data fault = object
    (text_member (codes "answer") (codes "refused") (text_member (codes "fault") (fault_name fault) no_members))
