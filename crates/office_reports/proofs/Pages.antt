-- Pages with other fields have the same tags.
use Rattle.std.{specs.{Prelude.decimal, List.{list_all, range_with_len}}, proofs.lemmas.Bool.{cases_Bool, true≢false, false≢true}}
use Rattle.std.proofs.Common.{◌≡◌, ℕ, ◌+◌, ◌*◌, ◌%◌, ◌==◌, nat_lt, Bool, true, false, ◌&&◌, not, List, [], ◌∷◌, ◌++◌, codes, length, filter, take, drop, refl, sym, ap, ◌∙◌, inl, inr, flat_map, if◌then◌else◌}
use Rattle.box6346.specs.{SlotName.slot_text, declared.slot.Slot.Slot}
use Rattle.yard_core.specs.declared.plan.Block.{Block}
use Rattle.office_reports.specs.{declared.yard.Standing.Standing, Names.load_name, Fields.{field_text, joined_pieces}, Fixed.{head, shapes, legend}}
use Rattle.office_reports.specs.{PictureLaws.drawn_containers, Markup.{Place, Between, Tag, SingleQuoted, DoubleQuoted, place_after, place_after_all, tags}}
use Rattle.office_reports.specs.Picture.{page_head, page_text}
use Rattle.office_reports.specs.Views.{is_forty, shape_name, title_text, shape_view, lettering, container_view, is_in_row, view_in_row, row_head, row_view, part_count, part_width, part_view, bay_label, bay_labels, tier_label, tier_labels, cells_view, labels, grid, used_cells, block_head, block_view, block_link, index}
use Rattle.office_reports.proofs.Markup.{is_quiet, quiet_stays, quiet_has_none, decimal_is_quiet, both_quiet, field_is_quiet}

-- ---- texts with the same tags

-- two texts that begin at one place, end at one, and have the same tags
pub record Alike (p q : Place) (a b : List ℕ) : Type 0 where
  pub one : place_after_all p a ≡ q
  pub other : place_after_all p b ≡ q
  pub same : tags p a ≡ tags p b

behind_append : (p : Place) (a b : List ℕ) → place_after_all p (a ++ b) ≡ place_after_all (place_after_all p a) b
behind_append p [] b = refl
behind_append p (c ∷ a) b = behind_append (place_after p c) a b

tags_append : (p : Place) (a b : List ℕ) → tags p (a ++ b) ≡ tags p a ++ tags (place_after_all p a) b
tags_append p [] b = refl
tags_append Between (c ∷ a) b = elim (cases_Bool (c == 60)) [
  | inl e ↦ rw e (ap (λ t. c ∷ t) (tags_append Tag a b))
  | inr e ↦ rw e (tags_append Between a b)
]
tags_append Tag (c ∷ a) b = ap (λ t. c ∷ t) (tags_append (place_after Tag c) a b)
tags_append SingleQuoted (c ∷ a) b = ap (λ t. c ∷ t) (tags_append (place_after SingleQuoted c) a b)
tags_append DoubleQuoted (c ∷ a) b = ap (λ t. c ∷ t) (tags_append (place_after DoubleQuoted c) a b)

followed : (p q r : Place) (a b c d : List ℕ) → Alike p q a b → Alike q r c d → Alike p r (a ++ c) (b ++ d)
followed p q r a b c d x y = record {
  one = behind_append p a c ∙ ap (λ place. place_after_all place c) x.one ∙ y.one;
  other = behind_append p b d ∙ ap (λ place. place_after_all place d) x.other ∙ y.other;
  same = tags_append p a c ∙ ap (λ place. tags p a ++ tags place c) x.one ∙ (λ i. x.same i ++ y.same i)
      ∙ sym (ap (λ place. tags p b ++ tags place d) x.other) ∙ sym (tags_append p b d);
}

-- with the places and texts left to be found
next : {p q r : Place} {a b c d : List ℕ} → Alike p q a b → Alike q r c d → Alike p r (a ++ c) (b ++ d)
next {p = p} {q = q} {r = r} {a = a} {b = b} {c = c} {d = d} x y = followed p q r a b c d x y

fixed : (p q : Place) (a : List ℕ) → place_after_all p a ≡ q → Alike p q a a
fixed p q a e = record { one = e; other = e; same = refl }

end : Alike Between Between [] []
end = fixed Between Between [] refl

-- a quiet text in a tag's value
quiet : (p : Place) (a b : List ℕ) → list_all is_quiet a ≡ true → a ≡ b → Alike p p a b
quiet p a b h e = record { one = quiet_stays p a h; other = ap (place_after_all p) (sym e) ∙ quiet_stays p a h; same = ap (tags p) e }

-- two quiet texts between tags
quiets : (a b : List ℕ) → list_all is_quiet a ≡ true → list_all is_quiet b ≡ true → Alike Between Between a b
quiets a b h k = record { one = quiet_stays Between a h; other = quiet_stays Between b k; same = quiet_has_none a h ∙ sym (quiet_has_none b k) }

number : (p : Place) (n m : ℕ) → n ≡ m → Alike p p (decimal n) (decimal m)
number p n m e = quiet p (decimal n) (decimal m) (decimal_is_quiet n) (ap decimal e)

numbers : (n m : ℕ) → Alike Between Between (decimal n) (decimal m)
numbers n m = quiets (decimal n) (decimal m) (decimal_is_quiet n) (decimal_is_quiet m)

field : (p : Place) (bytes : List ℕ) → Alike p p (field_text bytes) (field_text bytes)
field p bytes = quiet p (field_text bytes) (field_text bytes) (field_is_quiet bytes) refl

fields : (a b : List ℕ) → Alike Between Between (field_text a) (field_text b)
fields a b = quiets (field_text a) (field_text b) (field_is_quiet a) (field_is_quiet b)

each : {X : Type 0} (f g : X → List ℕ) → ((x : X) → Alike Between Between (f x) (g x)) → (xs : List X) → Alike Between Between (flat_map f xs) (flat_map g xs)
each f g h [] = end
each f g h (x ∷ xs) = followed Between Between Between (f x) (g x) (flat_map f xs) (flat_map g xs) (h x) (each f g h xs)

-- ---- a container

load_is_quiet : (is_laden : Bool) → list_all is_quiet (load_name is_laden) ≡ true
load_is_quiet true = refl
load_is_quiet false = refl

record IsQuiet (text : List ℕ) : Type 0 where
  all : list_all is_quiet text ≡ true

more : {a b : List ℕ} → IsQuiet a → IsQuiet b → IsQuiet (a ++ b)
more {a = a} {b = b} x y = record { all = both_quiet a b x.all y.all }

field_quiet : (bytes : List ℕ) → IsQuiet (field_text bytes)
field_quiet bytes = record { all = field_is_quiet bytes }

space_quiet : IsQuiet (codes " ")
space_quiet = record { all = refl }

load_quiet : (is_laden : Bool) → IsQuiet (load_name is_laden)
load_quiet is_laden = record { all = load_is_quiet is_laden }

title_quiet : (standing : Standing) → IsQuiet (title_text standing)
unfolding title_text
title_quiet standing =
    more (more (more (more (more (more (field_quiet standing.container) space_quiet) (field_quiet standing.size_type)) space_quiet) (load_quiet standing.is_laden)) space_quiet) (field_quiet (slot_text standing.slot))

four : (a b : Bool) → list_all is_quiet (if a then if b then codes "full40" else codes "full20" else if b then codes "empty40" else codes "empty20") ≡ true
four true true = refl
four true false = refl
four false true = refl
four false false = refl

shape_alike : (one other : Standing) → one.slot ≡ other.slot → one.is_laden ≡ other.is_laden → Alike SingleQuoted SingleQuoted (shape_name one) (shape_name other)
unfolding shape_name
shape_alike one other slot load =
    quiet SingleQuoted (shape_name one) (shape_name other) (four one.is_laden (is_forty one))
    (λ i. if load i then if (slot i).bay % 2 == 0 then codes "full40" else codes "full20" else if (slot i).bay % 2 == 0 then codes "empty40" else codes "empty20")

view_alike : (one other : Standing) → one.slot ≡ other.slot → one.is_laden ≡ other.is_laden → Alike Between Between (shape_view one) (shape_view other)
unfolding shape_view joined_pieces
view_alike one other slot load =
    next (fixed Between SingleQuoted (codes "<g transform='translate(") refl)
    (next (number SingleQuoted (32 * one.slot.bay) (32 * other.slot.bay) (λ i. 32 * (slot i).bay))
    (next (fixed SingleQuoted SingleQuoted (codes " -") refl)
    (next (number SingleQuoted (40 * one.slot.tier) (40 * other.slot.tier) (λ i. 40 * (slot i).tier))
    (next (fixed SingleQuoted Between (codes ")'><title>") refl)
    (next (quiets (title_text one) (title_text other) (title_quiet one).all (title_quiet other).all)
    (next (fixed Between SingleQuoted (codes "</title><use href='#") refl)
    (next (shape_alike one other slot load)
    (next (fixed SingleQuoted Between (codes "'/>") refl) end))))))))

lettering_alike : (one other : Standing) → Alike Between Between (lettering one) (lettering other)
unfolding lettering joined_pieces
lettering_alike one other =
    next (fixed Between Between (codes "<text y='13'>") refl)
    (next (fields (take 4 one.container) (take 4 other.container))
    (next (fixed Between Between (codes "</text><text y='24'>") refl)
    (next (fields (drop 4 one.container) (drop 4 other.container))
    (next (fixed Between Between (codes "</text><text y='36'>") refl)
    (next (fields (slot_text one.slot) (slot_text other.slot))
    (next (fixed Between Between (codes "</text></g>\n") refl) end))))))

container_alike : (one other : Standing) → one.slot ≡ other.slot → one.is_laden ≡ other.is_laden → Alike Between Between (container_view one) (container_view other)
container_alike one other slot load = next (view_alike one other slot load) (lettering_alike one other)

if_alike : (a b : Bool) (x y : List ℕ) → a ≡ b → Alike Between Between x y → Alike Between Between (if a then x else []) (if b then y else [])
if_alike true true x y e h = h
if_alike false false x y e h = end
if_alike true false x y e h = absurd (true≢false e)
if_alike false true x y e h = absurd (false≢true e)

parts_of : (a b : Slot × Bool) (xs ys : List (Slot × Bool)) → a ∷ xs ≡ b ∷ ys → (a ≡ b) × (xs ≡ ys)
parts_of a b xs ys e = (cc, cc)

views_alike : (block : Block) (row : ℕ) (ones others : List Standing) → drawn_containers ones ≡ drawn_containers others → Alike Between Between (flat_map (view_in_row block row) ones) (flat_map (view_in_row block row) others)
views_alike block row [] [] e = end
views_alike block row [] (other ∷ others) e = cc
views_alike block row (one ∷ ones) [] e = cc
views_alike block row (one ∷ ones) (other ∷ others) e =
    let parts = parts_of (one.slot, one.is_laden) (other.slot, other.is_laden) (drawn_containers ones) (drawn_containers others) e in
    let slot : one.slot ≡ other.slot = ap (λ (p : Slot × Bool). p.0) parts.0 in
    let load : one.is_laden ≡ other.is_laden = ap (λ (p : Slot × Bool). p.1) parts.0 in
    followed Between Between Between (view_in_row block row one) (view_in_row block row other) (flat_map (view_in_row block row) ones) (flat_map (view_in_row block row) others)
    (if_alike (is_in_row block row one) (is_in_row block row other) (container_view one) (container_view other) (λ i. (slot i).block == block.letter && (slot i).row == row) (container_alike one other slot load))
    (views_alike block row ones others parts.1)

-- ---- a row

row_head_alike : (block : Block) (row : ℕ) → Alike Between Between (row_head block row) (row_head block row)
unfolding row_head joined_pieces
row_head_alike block row =
    next (fixed Between Between (codes "<figure><figcaption>Row ") refl)
    (next (numbers row row)
    (next (fixed Between SingleQuoted (codes "</figcaption><svg class='row' viewBox='-22 -") refl)
    (next (number SingleQuoted (40 * block.tiers) (40 * block.tiers) refl)
    (next (fixed SingleQuoted SingleQuoted (codes " ") refl)
    (next (number SingleQuoted (64 * block.bays + 28) (64 * block.bays + 28) refl)
    (next (fixed SingleQuoted SingleQuoted (codes " ") refl)
    (next (number SingleQuoted (40 * block.tiers + 20) (40 * block.tiers + 20) refl)
    (next (fixed SingleQuoted SingleQuoted (codes "' width='") refl)
    (next (number SingleQuoted (64 * block.bays + 28) (64 * block.bays + 28) refl)
    (next (fixed SingleQuoted SingleQuoted (codes "'><g id='") refl)
    (next (field SingleQuoted (block.letter ∷ []))
    (next (fixed SingleQuoted SingleQuoted (codes "-") refl)
    (next (number SingleQuoted row row refl)
    (next (fixed SingleQuoted SingleQuoted (codes "'><use href='#") refl)
    (next (field SingleQuoted (block.letter ∷ []))
    (next (fixed SingleQuoted Between (codes "'/>\n") refl) end))))))))))))))))

part_alike : (block : Block) (row part : ℕ) → Alike Between Between (part_view block row part) (part_view block row part)
unfolding part_view joined_pieces
part_alike block row part =
    next (fixed Between SingleQuoted (codes "<svg class='paper' viewBox='-22 -") refl)
    (next (number SingleQuoted (40 * block.tiers) (40 * block.tiers) refl)
    (next (fixed SingleQuoted SingleQuoted (codes " ") refl)
    (next (number SingleQuoted (part_width block) (part_width block) refl)
    (next (fixed SingleQuoted SingleQuoted (codes " ") refl)
    (next (number SingleQuoted (40 * block.tiers + 20) (40 * block.tiers + 20) refl)
    (next (fixed SingleQuoted SingleQuoted (codes "' width='") refl)
    (next (number SingleQuoted (part_width block) (part_width block) refl)
    (next (fixed SingleQuoted SingleQuoted (codes "'><use href='#") refl)
    (next (field SingleQuoted (block.letter ∷ []))
    (next (fixed SingleQuoted SingleQuoted (codes "-") refl)
    (next (number SingleQuoted row row refl)
    (next (fixed SingleQuoted SingleQuoted (codes "' x='-") refl)
    (next (number SingleQuoted (1302 * part) (1302 * part) refl)
    (next (fixed SingleQuoted Between (codes "'/></svg>\n") refl) end))))))))))))))

row_alike : (block : Block) (ones others : List Standing) (row : ℕ) → drawn_containers ones ≡ drawn_containers others → Alike Between Between (row_view block ones row) (row_view block others row)
row_alike block ones others row e =
    next (next (next (next (row_head_alike block row) (views_alike block row ones others e)) (fixed Between Between (codes "</g></svg>\n") refl))
    (each (part_view block row) (part_view block row) (part_alike block row) (range_with_len 0 (part_count block))))
    (fixed Between Between (codes "</figure>\n") refl)

-- ---- a block

bay_alike : (bay : ℕ) → Alike Between Between (bay_label bay) (bay_label bay)
unfolding bay_label joined_pieces
bay_alike bay =
    next (fixed Between SingleQuoted (codes "<text x='") refl)
    (next (number SingleQuoted (32 * bay) (32 * bay) refl)
    (next (fixed SingleQuoted Between (codes "' y='15'>") refl)
    (next (numbers bay bay)
    (next (fixed Between Between (codes "</text>") refl) end))))

tier_alike : (tier : ℕ) → Alike Between Between (tier_label tier) (tier_label tier)
unfolding tier_label joined_pieces
tier_alike tier =
    next (fixed Between SingleQuoted (codes "<text x='-11' y='-") refl)
    (next (number SingleQuoted (40 * tier) (40 * tier) refl)
    (next (fixed SingleQuoted Between (codes "' dy='25'>") refl)
    (next (numbers tier tier)
    (next (fixed Between Between (codes "</text>") refl) end))))

labels_alike : (block : Block) → Alike Between Between (labels block) (labels block)
unfolding labels bay_labels tier_labels
labels_alike block =
    next (each (λ n. bay_label (2 * n + 1)) (λ n. bay_label (2 * n + 1)) (λ n. bay_alike (2 * n + 1)) (range_with_len 0 block.bays))
    (each (λ n. tier_label (n + 1)) (λ n. tier_label (n + 1)) (λ n. tier_alike (n + 1)) (range_with_len 0 block.tiers))

cells_alike : (block : Block) → Alike Between Between (cells_view block) (cells_view block)
unfolding cells_view joined_pieces
cells_alike block =
    next (fixed Between SingleQuoted (codes "<svg class='parts'><g id='") refl)
    (next (field SingleQuoted (block.letter ∷ []))
    (next (fixed SingleQuoted SingleQuoted (codes "'><path d='M0 0H") refl)
    (next (number SingleQuoted (64 * block.bays) (64 * block.bays) refl)
    (next (fixed SingleQuoted SingleQuoted (codes "V-") refl)
    (next (number SingleQuoted (40 * block.tiers) (40 * block.tiers) refl)
    (next (fixed SingleQuoted SingleQuoted (codes "H0Z' fill='url(#free)'/><path d='M-3 0H") refl)
    (next (number SingleQuoted (64 * block.bays) (64 * block.bays) refl)
    (next (fixed SingleQuoted Between (codes "h3' stroke='#16263a'/>") refl) end))))))))

grid_alike : (block : Block) → Alike Between Between (grid block) (grid block)
grid_alike block = next (next (cells_alike block) (labels_alike block)) (fixed Between Between (codes "</g></svg>\n") refl)

block_head_alike : (ones others : List Standing) (block : Block) → Alike Between Between (block_head ones block) (block_head others block)
unfolding block_head joined_pieces
block_head_alike ones others block =
    next (fixed Between SingleQuoted (codes "<section id='block-") refl)
    (next (field SingleQuoted (block.letter ∷ []))
    (next (fixed SingleQuoted Between (codes "'><h2>Block ") refl)
    (next (field Between (block.letter ∷ []))
    (next (fixed Between Between (codes "<small>") refl)
    (next (numbers (used_cells block ones) (used_cells block others))
    (next (fixed Between Between (codes " of ") refl)
    (next (numbers (block.bays * block.rows * block.tiers) (block.bays * block.rows * block.tiers))
    (next (fixed Between Between (codes " cells used</small></h2>\n") refl) end))))))))

block_alike : (ones others : List Standing) → drawn_containers ones ≡ drawn_containers others → (block : Block) → Alike Between Between (block_view ones block) (block_view others block)
block_alike ones others e block =
    next (next (next (next (block_head_alike ones others block) (grid_alike block)) (fixed Between Between (codes "<div>\n") refl))
    (each (λ n. row_view block ones (n + 1)) (λ n. row_view block others (n + 1)) (λ n. row_alike block ones others (n + 1) e) (range_with_len 0 block.rows)))
    (fixed Between Between (codes "</div></section>\n") refl)

-- ---- the index

link_alike : (block : Block) → Alike Between Between (block_link block) (block_link block)
unfolding block_link joined_pieces
link_alike block =
    next (fixed Between SingleQuoted (codes "<a href='#block-") refl)
    (next (field SingleQuoted (block.letter ∷ []))
    (next (fixed SingleQuoted Between (codes "'>Block ") refl)
    (next (field Between (block.letter ∷ []))
    (next (fixed Between Between (codes "</a>\n") refl) end))))

index_alike : (blocks : List Block) → Alike Between Between (index blocks) (index blocks)
index_alike blocks =
    if_alike (nat_lt 1 (length blocks)) (nat_lt 1 (length blocks))
    (codes "<nav>\n" ++ flat_map block_link blocks ++ codes "</nav>\n") (codes "<nav>\n" ++ flat_map block_link blocks ++ codes "</nav>\n") refl
    (next (next (fixed Between Between (codes "<nav>\n") refl) (each block_link block_link link_alike blocks)) (fixed Between Between (codes "</nav>\n") refl))

-- ---- the page

head_ends : place_after_all Between head ≡ Between
unfolding head
head_ends = refl

shapes_end : place_after_all Between shapes ≡ Between
unfolding shapes
shapes_end = refl

legend_ends : place_after_all Between legend ≡ Between
unfolding legend
legend_ends = refl

page_head_alike : (name other : List ℕ) (ones others : List Standing) → Alike Between Between (page_head name ones) (page_head other others)
unfolding page_head joined_pieces
page_head_alike name other ones others =
    next (fixed Between Between head head_ends)
    (next (fixed Between Between (codes "<title>Yard of ") refl)
    (next (fields name other)
    (next (fixed Between Between (codes "</title>\n") refl)
    (next (fixed Between Between shapes shapes_end)
    (next (fixed Between Between (codes "<h1>Yard of ") refl)
    (next (fields name other)
    (next (fixed Between Between (codes "</h1>\n<p><b>") refl)
    (next (numbers (length ones) (length others))
    (next (fixed Between Between (codes "</b> containers: <b>") refl)
    (next (numbers (length (filter (λ standing. standing.is_laden) ones)) (length (filter (λ standing. standing.is_laden) others)))
    (next (fixed Between Between (codes "</b> full, <b>") refl)
    (next (numbers (length (filter (λ standing. not standing.is_laden) ones)) (length (filter (λ standing. not standing.is_laden) others)))
    (next (fixed Between Between (codes "</b> empty</p>\n") refl) end)))))))))))))

pub page_alike : (name other : List ℕ) (blocks : List Block) (ones others : List Standing) → drawn_containers ones ≡ drawn_containers others → Alike Between Between (page_text name blocks ones) (page_text other blocks others)
page_alike name other blocks ones others e =
    next (next (next (next (page_head_alike name other ones others) (index_alike blocks)) (fixed Between Between legend legend_ends))
    (each (block_view ones) (block_view others) (block_alike ones others e) blocks))
    (fixed Between Between (codes "</main>\n</body>\n</html>\n") refl)
