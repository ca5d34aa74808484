-- A closing's segments and lists are those of its archive.
use Rattle.std.{specs.{Prelude.{◌&&◌, filter}, List.AllByRecursion}, proofs.Common.{◌≡◌, ℕ, ◌+◌, List, [], ◌∷◌, length, map, true, refl, sym, ap, subst, ◌∙◌}}
use Rattle.std.proofs.lemmas.Bool.{and_from, and_parts}
use Rattle.office_closing.specs.{Changes.unmarked, Lists.SettledListContent, declared.register.Segment.Segment, declared.comparing.Numbers.Numbers, Closes.Held}
use Rattle.office_closing.specs.Sound.{are_sound_archives, are_sound_segments, are_sound_taken, are_sound_sealed, are_sound_lists, is_sound, is_sound_mark}
use Rattle.office_closing.specs.Copies.{closes_some, segment_of}
use Rattle.office_archives.proofs.Told.{names_one_more}
use Rattle.office_archive_files.specs.Naming.{ClosingsAreNamed}

all_placed : (place : ℕ) (numbers : List Numbers) → AllByRecursion (λ (segment : Segment). segment.archive ≡ place) (map (segment_of place) numbers)
all_placed place [] = tt
all_placed place (one ∷ numbers) = (refl, all_placed place numbers)

-- the mark says nothing of its archives
sound_unmarked : (held : Held) → is_sound held.copied ≡ true → is_sound (unmarked held.copied) ≡ true
sound_unmarked held sound =
    let archives = are_sound_archives held.copied.archives in
    let segments = are_sound_segments (length held.copied.archives) held.copied.segments in
    let lists = are_sound_lists (length held.copied.archives) held.copied.lists in
    let taken = are_sound_taken (length held.copied.archives) held.copied.taken in
    let sealed = are_sound_sealed (length held.copied.archives) held.copied.sealed in
    let mark = is_sound_mark held.copied.closed_for in
    let outer = and_parts archives (segments && (lists && (taken && (sealed && mark)))) sound in
    let inner = and_parts segments (lists && (taken && (sealed && mark))) outer.1 in
    let next = and_parts lists (taken && (sealed && mark)) inner.1 in
    let then_ = and_parts taken (sealed && mark) next.1 in
    let last = and_parts sealed mark then_.1 in
    and_from archives (segments && (lists && (taken && (sealed && true)))) outer.0
    (and_from segments (lists && (taken && (sealed && true))) inner.0
    (and_from lists (taken && (sealed && true)) next.0 (and_from taken (sealed && true) then_.0 (and_from sealed true last.0 refl))))

pub closings_are_named : ClosingsAreNamed
closings_are_named held names closing list one is sound are closed has =
    let place : closing.archive.place ≡ length list + 1 = is.place ∙ ap (λ n. n + 1) (sym are.counted) in
    let placed = subst (AllByRecursion (λ (segment : Segment). segment.archive ≡ closing.archive.place)) (sym is.segments) (all_placed closing.archive.place (filter closes_some closing.numbers)) in
    names_one_more (unmarked held.copied) list closing.archive closing.segments closing.lists closing.taken closing.sealed one (sound_unmarked held sound) are
    (subst (λ n. AllByRecursion (λ (segment : Segment). segment.archive ≡ n) closing.segments) place placed)
    (subst (λ n. AllByRecursion (λ (put : SettledListContent). put.archive ≡ n) closing.lists) place is.lists.placed) closed has
