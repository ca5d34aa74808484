-- A front, rows and a back are the JSON of the whole.
use Rattle.std.proofs.Common.{◌≡◌, ◌∙◌, ap, ℕ, List, ◌∷◌, ◌++◌, append_assoc, codes, decimal, false}
use Rattle.json.specs.Print.{quoted}
use Rattle.serde_json.specs.{Data.{Items, array, object, member, no_members, number, unsigned, string}, Written.{compact_text, items_text, members_text}}
use Rattle.serde_json.proofs.OnLiterals.{serde_json_on_literals}
use Rattle.office_report_data.specs.{Archives.{ToldContent, archives_data, archives_front, members_of, told_data}, Rows.{list_back, object_back, rows_front}}
use Rattle.office_report_data.specs.{Tickets.{closed_front, opened_front, ticket_back}, Visits.visits_front, Work.{lines_member, work_front}}

of_three : (start a b c : List ℕ) → (start ++ a ++ b ++ c) ≡ start ++ (a ++ b ++ c)
of_three start a b c = simp append_assoc

-- one after another
pub three_pushed : (start one two three a b c : List ℕ) → one ≡ start ++ a → two ≡ one ++ b → three ≡ two ++ c
    → three ≡ start ++ (a ++ b ++ c)
three_pushed start one two three a b c first second third =
    let all : three ≡ start ++ a ++ b ++ c = cc in
    all ∙ of_three start a b c

pub rows_whole : (items : Items)
    → (rows_front ++ items_text false items ++ object_back) ≡ compact_text (object (member (codes "rows") (array items) no_members))
unfolding rows_front object_back serde_json_on_literals
rows_whole items = append_assoc (codes "{\"rows\":[") (items_text false items) (codes "}")

of_list : (a b c d e f g h i : List ℕ)
    → (a ++ b ++ (c ++ d ++ e ++ f ++ g ++ h ++ i)) ≡ (a ++ (b ++ (c ++ (d ++ (e ++ (f ++ (g ++ (h ++ i))))))))
of_list a b c d e f g h i = simp append_assoc

pub list_whole : (items : Items) (side vessel voyage : List ℕ)
    → (rows_front ++ items_text false items ++ list_back side vessel voyage)
    ≡ compact_text (object (member (codes "rows") (array items) (member (codes "side") (string side)
    (member (codes "vessel") (string vessel) (member (codes "voyage") (string voyage) no_members)))))
unfolding rows_front list_back serde_json_on_literals
list_whole items side vessel voyage =
    of_list (codes "{\"rows\":[") (items_text false items) (codes ",\"side\":") (quoted side) (codes ",\"vessel\":")
    (quoted vessel) (codes ",\"voyage\":") (quoted voyage) (codes "}")

of_work : (a b c d e f g h i j k l m : List ℕ)
    → (a ++ b ++ c ++ d ++ (e ++ f) ++ (g ++ h ++ i ++ j ++ k ++ l ++ m))
    ≡ (a ++ (b ++ (c ++ (d ++ (e ++ (f ++ (g ++ (h ++ (i ++ (j ++ (k ++ (l ++ m))))))))))))
of_work a b c d e f g h i j k l m = simp append_assoc

pub work_whole : (done whole : ℕ) (items : Items) (side vessel voyage : List ℕ)
    → (work_front done ++ items_text false items ++ lines_member whole ++ list_back side vessel voyage)
    ≡ compact_text (object (member (codes "done") (number (unsigned done)) (member (codes "jobs") (array items)
    (member (codes "lines") (number (unsigned whole)) (member (codes "side") (string side)
    (member (codes "vessel") (string vessel) (member (codes "voyage") (string voyage) no_members)))))))
unfolding work_front lines_member list_back serde_json_on_literals
work_whole done whole items side vessel voyage =
    of_work (codes "{\"done\":") (decimal done) (codes ",\"jobs\":[") (items_text false items) (codes ",\"lines\":") (decimal whole)
    (codes ",\"side\":") (quoted side) (codes ",\"vessel\":") (quoted vessel) (codes ",\"voyage\":") (quoted voyage) (codes "}")

of_visits : (a b c d e : List ℕ) → (a ++ b ++ c ++ d ++ e) ≡ (a ++ (b ++ (c ++ (d ++ e))))
of_visits a b c d e = simp append_assoc

pub visits_whole : (container : List ℕ) (items : Items)
    → (visits_front container ++ items_text false items ++ object_back)
    ≡ compact_text (object (member (codes "container") (string container) (member (codes "rows") (array items) no_members)))
unfolding visits_front object_back serde_json_on_literals
visits_whole container items =
    of_visits (codes "{\"container\":") (quoted container) (codes ",\"rows\":[") (items_text false items) (codes "}")

of_ticket : (a b c d e f g h i : List ℕ)
    → (a ++ b ++ (c ++ d ++ e) ++ f ++ (g ++ h ++ i)) ≡ (a ++ (b ++ (c ++ (d ++ (e ++ (f ++ (g ++ (h ++ i))))))))
of_ticket a b c d e f g h i = simp append_assoc

pub ticket_whole : (reference : ℕ) (closed opened : Items) (partner : List ℕ)
    → (closed_front ++ items_text false closed ++ opened_front reference ++ items_text false opened ++ ticket_back partner)
    ≡ compact_text (object (member (codes "closed") (array closed) (member (codes "number") (number (unsigned reference))
    (member (codes "opened") (array opened) (member (codes "partner") (string partner) no_members)))))
unfolding closed_front opened_front ticket_back serde_json_on_literals
ticket_whole reference closed opened partner =
    of_ticket (codes "{\"closed\":[") (items_text false closed) (codes ",\"number\":") (decimal reference) (codes ",\"opened\":[")
    (items_text false opened) (codes ",\"partner\":") (quoted partner) (codes "}")

-- ---- an object with one member more

of_two : (a b c : List ℕ) → (a ++ b ++ c) ≡ (a ++ (b ++ c))
of_two a b c = simp append_assoc

pub archives_alone : (count : ℕ) → (archives_front count ++ object_back) ≡ compact_text (archives_data count no_members)
unfolding archives_front object_back serde_json_on_literals
archives_alone count = of_two (codes "{\"archives\":") (decimal count) (codes "}")

of_archives : (a b c d : List ℕ) → (a ++ b ++ c ++ d) ≡ (a ++ (b ++ (c ++ d)))
of_archives a b c d = simp append_assoc

archives_whole : (count : ℕ) (told : ToldContent)
    → (archives_front count ++ codes "," ++ members_text false (members_of told)) ≡ compact_text (archives_data count (members_of told))
unfolding archives_front serde_json_on_literals
archives_whole count told =
    of_archives (codes "{\"archives\":") (decimal count) (codes ",") (members_text false (members_of told))

-- what stands before the other members of an object makes it one with archives
pub archives_told : (count : ℕ) (json rest text : List ℕ) → json ≡ 123 ∷ rest → text ≡ archives_front count ++ codes "," ++ rest
    → (told : ToldContent) → json ≡ compact_text (told_data told) → text ≡ compact_text (archives_data count (members_of told))
archives_told count json rest text begins is told whole =
    let same : rest ≡ members_text false (members_of told) = cc in
    is ∙ ap (λ (bytes : List ℕ). archives_front count ++ codes "," ++ bytes) same ∙ archives_whole count told
