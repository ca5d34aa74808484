use Rattle.std.{specs.Option.option_and_then, proofs.Common.{◌≤◌, inl, inr, rules, sym, ap, ◌∙◌, arith}}
use Rattle.std.proofs.lemmas.Bool.{leb-false, leb-true, ltb-false, ltb-true}
use Rattle.office_loading.specs.Closed.{last_closed}
use Rattle.office_archives.{specs.Shelves.archive_at, proofs.Beside.{closed_there, open_there}}
use Rattle.office_archives.proofs.of_archive.closed_before.Goals.{then-number-eq0-via-then-number-eq0, then-number-eq0-via-else-number-eq0+then-not-is_closed}
use Rattle.office_archives.proofs.of_archive.closed_before.Goals as goal

-- ---- a number that the desk doesn't know for closed

pub returns-then-number-eq0-clause-not_before : goal.returns-then-number-eq0-clause-not_before
returns-then-number-eq0-clause-not_before g c = λ same low code called content es stand.
    let desk = c.args.desk.now in
    let n = c.args.number in
    let p = c.args.partner in
    elim c.then-number-eq0.branch [
      | then-number-eq0-via-then-number-eq0 w ↦ absurd (omega (arith, low, w.if-number-eq0.true))
      | then-number-eq0-via-else-number-eq0+then-not-is_closed w ↦ inl (open_there g.S.Store g.A.Archives.are desk c.args.archives.now n p (leb-false n (last_closed desk.closed p) (sym w.is_closed.ensures ∙ w.if-not-is_closed.true)) content es stand)
    ]

-- ---- one that it knows for closed: the archives know its place

pub returns-in-Some-clause-before : goal.returns-in-Some-clause-before
returns-in-Some-clause-before g c = λ earlier code called content es stand.
    let desk = c.args.desk.now in
    let n = c.args.number in
    let p = c.args.partner in
    let low : 1 ≤ n = search rules in
    let reach = leb-true n (last_closed desk.closed p) (sym c.is_closed.ensures ∙ c.if-not-is_closed.false) in
    let closed = closed_there g.S.Store g.A.Archives.are desk c.args.archives.now code n p called low reach content es stand in
    record {
      closed = closed;
      earlier = c.in-Some.keeper;
      before = ltb-true c.in-Some.keeper c.args.place earlier;
      keeps = c.place_of.ensures stand.list stand.these closed ∙ ap (option_and_then (archive_at stand.list)) c.in-Some.is;
    }

pub returns-in-Some-clause-not_before : goal.returns-in-Some-clause-not_before
returns-in-Some-clause-not_before g c = λ later low code called content es stand.
    let desk = c.args.desk.now in
    let n = c.args.number in
    let p = c.args.partner in
    let reach = leb-true n (last_closed desk.closed p) (sym c.is_closed.ensures ∙ c.if-not-is_closed.false) in
    let closed = closed_there g.S.Store g.A.Archives.are desk c.args.archives.now code n p called low reach content es stand in
    inr record {
      later = c.in-Some.keeper;
      from = ltb-false c.in-Some.keeper c.args.place later;
      keeps = c.place_of.ensures stand.list stand.these closed ∙ ap (option_and_then (archive_at stand.list)) c.in-Some.is;
    }

pub returns-in-None-clause-not_before : goal.returns-in-None-clause-not_before
returns-in-None-clause-not_before g c = λ same low code called content es stand.
    let desk = c.args.desk.now in
    let n = c.args.number in
    let p = c.args.partner in
    let reach = leb-true n (last_closed desk.closed p) (sym c.is_closed.ensures ∙ c.if-not-is_closed.false) in
    let closed = closed_there g.S.Store g.A.Archives.are desk c.args.archives.now code n p called low reach content es stand in
    inl (c.place_of.ensures stand.list stand.these closed ∙ ap (option_and_then (archive_at stand.list)) c.in-None.is)
