use Rattle.std.proofs.{Common.{[], ◌∷◌, Some, Ok, map, option_map, sym, ap, subst, ◌∙◌}, lemmas.Result.err_from_is_err_and}
use Rattle.edi_messages.specs.Owned.{call_content}
use Rattle.office_rows.specs.Rows.{listing_content}
use Rattle.office_parts.specs.OwnLists.{list_name}
use Rattle.office_archives.{specs.ListsAway.FindsIfAway, proofs.Brought.{brings_fault, brings_lines, brings_nothing}}
use Rattle.office_archives.proofs.bringing.bring_back.Goals as goal

pub returns-in_err-lines : goal.returns-in_err-lines
returns-in_err-lines g c =
    let desk = c.args.desk.now in
    let found = c.lines_if_away.ensures in
    let p = err_from_is_err_and c.from_residual.result c.from_residual.ensures.1 in
    record {
      brings = brings_fault g.S.Store g.A.Archives.are desk c.lines_if_away.new.desk c.args.archives.now (λ sound db left. g.met.S.Store.settled desk.conn.store db sound.1 left) found.looks found.last_fault
          (list_name (call_content c.args.call.now) c.args.side ∷ []) _ p.0 p.1;
    }

-- it is not away
pub returns-in-None : goal.returns-in-None
returns-in-None g c =
    let desk = c.args.desk.now in
    let found = c.lines_if_away.ensures in
    let name = list_name (call_content c.args.call.now) c.args.side in
    record {
      brings = brings_nothing g.S.Store g.A.Archives.are desk c.lines_if_away.new.desk c.args.archives.now (λ sound db left. g.met.S.Store.settled desk.conn.store db sound.1 left) found.looks found.last_fault (name ∷ []) (Ok tt)
          c.in_ok-lines.ensures.stays_open
          (λ sound list content es these stands. (
            subst (λ o. FindsIfAway g.S.Store g.A.Archives.are desk c.args.archives.now name (option_map (λ lines. map listing_content lines.items) o)) c.in-None.is (c.in_ok-lines.ensures.away sound) list content es these stands,
            tt,
          ));
    }

-- its lines were written
pub returns-in-Some : goal.returns-in-Some
returns-in-Some g c =
    let desk = c.args.desk.now in
    let found = c.lines_if_away.ensures in
    let name = list_name (call_content c.args.call.now) c.args.side in
    let back = map listing_content c.deref.result.now in
    let wrote = c.bring_back.ensures in
    record {
      brings = brings_lines g.S.Store g.A.Archives.are desk c.lines_if_away.new.desk c.args.archives.now (λ sound db left. g.met.S.Store.settled desk.conn.store db sound.1 left) found.looks found.last_fault name back
          (λ sound. subst (λ o. FindsIfAway g.S.Store g.A.Archives.are desk c.args.archives.now name o) (ap (option_map (λ lines. map listing_content lines.items)) c.in-Some.is ∙ ap (λ items. Some (map listing_content items)) (sym c.deref.ensures.value)) (c.in_ok-lines.ensures.away sound))
          c.in_ok-lines.ensures.stays_open c.bring_back.result c.bring_back.new.self wrote.writes wrote.beside wrote.setup wrote.closed wrote.last_fault;
    }
