use Rattle.std.{specs.Prelude.{slice_get, nat_lt as ltb}, proofs.{lemmas.Option.{slice_get-get_or, slice_get_within}, lemmas.Bool.{ltb-true, lt-ltb}}}
use Rattle.std.proofs.Common.{◌≡◌, ◌-◌, ◌<◌, List, length, vec_len, Some, true, false, sym, ap, ◌∙◌, rules, arith, get_or}
use Rattle.terminal_core.{specs.declared.lines.Listing.Listing, proofs.Removed.{swapped_out, noted_last, noted_moved}}
use Rattle.terminal_core.proofs.lists.remove_at.Goals as goal

pub returns-in-Some-clause-moved : goal.returns-in-Some-clause-moved
returns-in-Some-clause-moved c =
    let old = c.args.rows.now.items in
    let new = c.swap_remove.new.self.items in
    let all : length old ≡ vec_len c.args.rows.now = search rules in
    let left : length new ≡ vec_len c.swap_remove.new.self = search rules in
    swapped_out old new c.args.row_index c.requires.low (omega (arith, all, left, c.swap_remove.ensures.len))
    (λ d far. c.swap_remove.ensures.by_index.0 d (omega (arith, far, all)) ∙ ap (λ n. get_or old (n - 1) d) (sym all))
    (λ k d apart far. c.swap_remove.ensures.by_index.1 k d apart (omega (arith, far, all)))

pub returns-in_default-clause-moved : goal.returns-in_default-clause-moved
returns-in_default-clause-moved c =
    let old = c.args.rows.now.items in
    let new = c.swap_remove.new.self.items in
    let all : length old ≡ vec_len c.args.rows.now = search rules in
    let left : length new ≡ vec_len c.swap_remove.new.self = search rules in
    swapped_out old new c.args.row_index c.requires.low (omega (arith, all, left, c.swap_remove.ensures.len))
    (λ d far. c.swap_remove.ensures.by_index.0 d (omega (arith, far, all)) ∙ ap (λ n. get_or old (n - 1) d) (sym all))
    (λ k d apart far. c.swap_remove.ensures.by_index.1 k d apart (omega (arith, far, all)))

pub returns-in-Some-clause-noted : goal.returns-in-Some-clause-noted
returns-in-Some-clause-noted c =
    let old = c.args.rows.now.items in
    let new = c.swap_remove.new.self.items in
    let moved = c.in-Some.moved.now in
    let low : c.args.row_index < length c.deref.result.now = ltb-true c.args.row_index (length c.deref.result.now) (sym c.in-Some.ensures.lookup.0) in
    let there : slice_get c.deref.result.now c.args.row_index ≡ Some moved = slice_get-get_or c.deref.result.now c.args.row_index moved low ∙ ap Some (sym c.in-Some.ensures.lookup.1) in
    let here : slice_get new c.args.row_index ≡ Some moved = ap (λ (rows : List Listing). slice_get rows c.args.row_index) (sym c.deref.ensures.value) ∙ there in
    noted_moved old c.args.indexes.now c.requires.noted new c.args.row_index (get_or old c.args.row_index moved) (slice_get-get_or old c.args.row_index moved c.requires.low) (returns-in-Some-clause-moved c)
    c.renote.new.indexes moved here c.renote.ensures

pub returns-in_default-clause-noted : goal.returns-in_default-clause-noted
returns-in_default-clause-noted c =
    let old = c.args.rows.now.items in
    let new = c.swap_remove.new.self.items in
    let high : ltb c.args.row_index (length new) ≡ false = ap (λ (rows : List Listing). ltb c.args.row_index (length rows)) (sym c.deref.ensures.value) ∙ sym c.in_default.ensures.lookup.0 in
    noted_last old c.args.indexes.now c.requires.noted new c.args.row_index c.swap_remove.result (slice_get-get_or old c.args.row_index c.swap_remove.result c.requires.low ∙ ap Some (sym c.swap_remove.ensures.value)) (returns-in_default-clause-moved c)
    (λ k row at same. let within : k < length new = slice_get_within new k row at in
    let low : c.args.row_index < length new = omega (arith, within, same) in
    let bad : true ≡ false = sym (lt-ltb c.args.row_index (length new) low) ∙ high in cc)
