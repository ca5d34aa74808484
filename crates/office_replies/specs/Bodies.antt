-- The bodies that answer a delivery.
use Rattle.std.specs.Prelude.{ℕ, List, ◌++◌, codes, decimal}
use Rattle.json.specs.Print.{quoted}
use Rattle.serde_json.specs.{Data.{Data, number, unsigned, object, member, no_members}, Written.compact_text}
use Rattle.office_replies.specs.Members.{text_member}

abbrev pub answer_data : List ℕ → ℕ → List ℕ → Data → Data
answer_data answer n partner reply =
    object (text_member (codes "answer") answer
    (member (codes "number") (number (unsigned n))
    (text_member (codes "partner") partner (member (codes "reply") reply no_members))))

-- an answer's members before its reply, each as its text
unfoldable pub joined_head : List ℕ → ℕ → List ℕ → List ℕ
joined_head answer n partner =
    codes "{\"answer\":" ++ answer ++ codes ",\"number\":" ++ decimal n ++ codes ",\"partner\":" ++ partner
    ++ codes ",\"reply\":"

-- what an answer has before its reply
abbrev pub head_text : List ℕ → ℕ → List ℕ → List ℕ
head_text answer n partner = joined_head (quoted answer) n (quoted partner)

-- the text of an answer, round a reply that is a text already
abbrev pub answer_text : List ℕ → ℕ → List ℕ → List ℕ → List ℕ
answer_text answer n partner reply = head_text answer n partner ++ reply ++ codes "}"

abbrev pub waiting_data : ℕ → ℕ → List ℕ → Data
waiting_data next n partner =
    object (text_member (codes "answer") (codes "waiting")
    (member (codes "next") (number (unsigned next))
    (member (codes "number") (number (unsigned n)) (text_member (codes "partner") partner no_members))))

unfoldable pub waiting_text : ℕ → ℕ → List ℕ → List ℕ
waiting_text next n partner = compact_text (waiting_data next n partner)

abbrev pub clash_data : ℕ → List ℕ → Data
clash_data n partner =
    object (text_member (codes "answer") (codes "clash")
    (member (codes "number") (number (unsigned n)) (text_member (codes "partner") partner no_members)))

unfoldable pub clash_text : ℕ → List ℕ → List ℕ
clash_text n partner = compact_text (clash_data n partner)

abbrev pub refused_data : List ℕ → List ℕ → Data
refused_data contrl fault =
    object (text_member (codes "answer") (codes "refused")
    (text_member (codes "contrl") contrl (text_member (codes "fault") fault no_members)))

unfoldable pub refused_text : List ℕ → List ℕ → List ℕ
refused_text contrl fault = compact_text (refused_data contrl fault)

abbrev pub not_now_data : Data
not_now_data = object (text_member (codes "answer") (codes "not now") no_members)
