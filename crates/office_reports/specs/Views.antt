-- The views of a yard: an index of its blocks, the blocks, their rows, and the containers in them. A cell is 64 wide and 40
-- high. A bay has its middle at 32 times its number, so that a forty in an even bay lies over the two odd bays beside it.
use Rattle.std.specs.Prelude.{ℕ, Bool, List, [], ◌∷◌, ◌+◌, ◌*◌, ◌/◌, ◌%◌, ◌++◌, ◌==◌, ◌&&◌, nat_lt, min, length, filter, take, drop, if◌then◌else◌, codes, decimal}
use Rattle.std.specs.List.{flat_map, range_with_len}
use Rattle.box6346.specs.SlotName.{slot_text}
use Rattle.yard_core.specs.declared.plan.Block.{Block}
use Rattle.office_reports.specs.{declared.yard.Standing.Standing, Names.load_name, Fields.{field_text, joined_pieces}}

-- ---- a container

-- a forty stands in an even bay
abbrev pub is_forty : Standing → Bool
is_forty standing = standing.slot.bay % 2 == 0

-- its load and its length
unfoldable pub shape_name : Standing → List ℕ
shape_name standing =
    if standing.is_laden then if is_forty standing then codes "full40" else codes "full20"
    else if is_forty standing then codes "empty40" else codes "empty20"

-- BOX SIZE FULL SLOT, or EMPTY
unfoldable pub title_text : Standing → List ℕ
title_text standing =
    field_text standing.container ++ codes " " ++ field_text standing.size_type ++ codes " "
    ++ load_name standing.is_laden ++ codes " " ++ field_text (slot_text standing.slot)

-- its shape, with the middle of its bay along and the top of its tier up
unfoldable pub shape_view : Standing → List ℕ
shape_view standing = joined_pieces
    (codes "<g transform='translate(" ∷ decimal (32 * standing.slot.bay) ∷ codes " -"
    ∷ decimal (40 * standing.slot.tier) ∷ codes ")'><title>" ∷ title_text standing ∷ codes "</title><use href='#"
    ∷ shape_name standing ∷ codes "'/>" ∷ [])

-- what is read on it: its number in two lines, and its slot
unfoldable pub lettering : Standing → List ℕ
lettering standing = joined_pieces
    (codes "<text y='13'>" ∷ field_text (take 4 standing.container) ∷ codes "</text><text y='24'>"
    ∷ field_text (drop 4 standing.container) ∷ codes "</text><text y='36'>" ∷ field_text (slot_text standing.slot)
    ∷ codes "</text></g>\n" ∷ [])

abbrev pub container_view : Standing → List ℕ
container_view standing = shape_view standing ++ lettering standing

-- ---- a row

abbrev pub is_in_block : Block → Standing → Bool
is_in_block block standing = standing.slot.block == block.letter

abbrev pub is_in_row : Block → ℕ → Standing → Bool
is_in_row block row standing = is_in_block block standing && standing.slot.row == row

-- a container of the row
abbrev pub view_in_row : Block → ℕ → Standing → List ℕ
view_in_row block row standing = if is_in_row block row standing then container_view standing else []

-- its number, and room for as many cells along and up as the block has, and for the numbers of bays and tiers
unfoldable pub row_head : Block → ℕ → List ℕ
row_head block row = joined_pieces
    (codes "<figure><figcaption>Row " ∷ decimal row ∷ codes "</figcaption><svg class='row' viewBox='-22 -"
    ∷ decimal (40 * block.tiers) ∷ codes " " ∷ decimal (64 * block.bays + 28) ∷ codes " "
    ∷ decimal (40 * block.tiers + 20) ∷ codes "' width='" ∷ decimal (64 * block.bays + 28) ∷ codes "'><g id='"
    ∷ field_text (block.letter ∷ []) ∷ codes "-" ∷ decimal row ∷ codes "'><use href='#"
    ∷ field_text (block.letter ∷ []) ∷ codes "'/>\n" ∷ [])

-- on paper a row is in parts of 20 odd bays, which can be read there: as a block has 40 at most, in one or in two. The second
-- part begins at bay 41, without the numbers of tiers
abbrev pub part_count : Block → ℕ
part_count block = (block.bays + 19) / 20

abbrev pub part_width : Block → ℕ
part_width block = 64 * min block.bays 20 + 28

unfoldable pub part_view : Block → ℕ → ℕ → List ℕ
part_view block row part = joined_pieces
    (codes "<svg class='paper' viewBox='-22 -" ∷ decimal (40 * block.tiers) ∷ codes " " ∷ decimal (part_width block)
    ∷ codes " " ∷ decimal (40 * block.tiers + 20) ∷ codes "' width='" ∷ decimal (part_width block)
    ∷ codes "'><use href='#" ∷ field_text (block.letter ∷ []) ∷ codes "-" ∷ decimal row ∷ codes "' x='-"
    ∷ decimal (1302 * part) ∷ codes "'/></svg>\n" ∷ [])

-- the free cells, the containers over them, and the row's parts on paper
abbrev pub row_view : Block → List Standing → ℕ → List ℕ
row_view block standings row =
    row_head block row ++ flat_map (view_in_row block row) standings ++ codes "</g></svg>\n"
    ++ flat_map (part_view block row) (range_with_len 0 (part_count block)) ++ codes "</figure>\n"

-- ---- a block

-- the number of an odd bay, below its middle
unfoldable pub bay_label : ℕ → List ℕ
bay_label bay = joined_pieces
    (codes "<text x='" ∷ decimal (32 * bay) ∷ codes "' y='15'>" ∷ decimal bay ∷ codes "</text>" ∷ [])

-- those of its bays 1, 3, ..
unfoldable pub bay_labels : ℕ → List ℕ
bay_labels bays = flat_map (λ n. bay_label (2 * n + 1)) (range_with_len 0 bays)

-- the number of a tier, at its left
unfoldable pub tier_label : ℕ → List ℕ
tier_label tier = joined_pieces
    (codes "<text x='-11' y='-" ∷ decimal (40 * tier) ∷ codes "' dy='25'>" ∷ decimal tier ∷ codes "</text>" ∷ [])

-- those of its tiers 1, 2, ..
unfoldable pub tier_labels : ℕ → List ℕ
tier_labels tiers = flat_map (λ n. tier_label (n + 1)) (range_with_len 0 tiers)

-- free cells, and the ground
unfoldable pub cells_view : Block → List ℕ
cells_view block = joined_pieces
    (codes "<svg class='parts'><g id='" ∷ field_text (block.letter ∷ []) ∷ codes "'><path d='M0 0H"
    ∷ decimal (64 * block.bays) ∷ codes "V-" ∷ decimal (40 * block.tiers)
    ∷ codes "H0Z' fill='url(#free)'/><path d='M-3 0H" ∷ decimal (64 * block.bays) ∷ codes "h3' stroke='#16263a'/>" ∷ [])

-- the numbers of its bays and tiers
unfoldable pub labels : Block → List ℕ
labels block = bay_labels block.bays ++ tier_labels block.tiers

-- what all its rows have: free cells, the ground, the numbers of its bays and tiers
abbrev pub grid : Block → List ℕ
grid block = cells_view block ++ labels block ++ codes "</g></svg>\n"

-- a forty uses two cells
abbrev pub used_cells : Block → List Standing → ℕ
used_cells block standings =
    length (filter (λ standing. is_in_block block standing) standings)
    + length (filter (λ standing. is_in_block block standing && is_forty standing) standings)

-- its letter, and how many of its cells are used
unfoldable pub block_head : List Standing → Block → List ℕ
block_head standings block = joined_pieces
    (codes "<section id='block-" ∷ field_text (block.letter ∷ []) ∷ codes "'><h2>Block "
    ∷ field_text (block.letter ∷ []) ∷ codes "<small>" ∷ decimal (used_cells block standings) ∷ codes " of "
    ∷ decimal (block.bays * block.rows * block.tiers) ∷ codes " cells used</small></h2>\n" ∷ [])

abbrev pub block_view : List Standing → Block → List ℕ
block_view standings block =
    block_head standings block ++ grid block ++ codes "<div>\n"
    ++ flat_map (λ n. row_view block standings (n + 1)) (range_with_len 0 block.rows) ++ codes "</div></section>\n"

-- ---- the index

unfoldable pub block_link : Block → List ℕ
block_link block = joined_pieces
    (codes "<a href='#block-" ∷ field_text (block.letter ∷ []) ∷ codes "'>Block " ∷ field_text (block.letter ∷ [])
    ∷ codes "</a>\n" ∷ [])

-- a link to each block, where there is more than one
abbrev pub index : List Block → List ℕ
index blocks = if nat_lt 1 (length blocks) then codes "<nav>\n" ++ flat_map block_link blocks ++ codes "</nav>\n" else []
