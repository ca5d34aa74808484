use Rattle.std.proofs.{Common.{Ok, Err, [], ◌∷◌, map, take, sym, subst, refl}, lemmas.Result.err_from_is_err_and}
use Rattle.office_tables.proofs.WritesLemmas.{taken_more}
use Rattle.office_desk.proofs.LookLemmas.{looks_nowhere}
use Rattle.office_parts.specs.Named.{named_list_content}
use Rattle.office_archives.{specs.Bringing.BringsTogether, proofs.Brought.{brings_failed, brings_more, brings_nothing}}
use Rattle.office_archives.proofs.bringing.bring_back_all.Goals as goal

pub loop-list-init : goal.loop-list-init
loop-list-init g c =
    let desk = c.args.desk.now in
    brings_nothing g.S.Store g.A.Archives.are desk desk c.args.archives.now (λ sound db left. g.met.S.Store.settled desk.conn.store db sound.1 left) (looks_nowhere g.S.Store desk) refl [] (Ok tt) (λ clean was. was) (λ sound list content es these stands. tt)

pub loop-list-preserved : goal.loop-list-preserved
loop-list-preserved g c =
    let all = c.args.lists.now in
    let i = c.loop-list.list-index in
    let item = c.list-item.result in
    let more = taken_more named_list_content all i item c.loop-list-test.true c.list-item.is in
    subst (λ names. BringsTogether g.S.Store g.A.Archives.are c.args.desk.now c.args.archives.now names (Ok tt) c.bring_back.new.desk) (sym more)
    (brings_more g.S.Store g.A.Archives.are c.args.desk.now c.loop-list.desk c.bring_back.new.desk c.args.archives.now (map named_list_content (take i all)) (named_list_content item ∷ []) (Ok tt) c.loop-list.invariant c.in_ok-bring_back.ensures.brings)

pub returns-in_err-bring_back : goal.returns-in_err-bring_back
returns-in_err-bring_back g c =
    let all = c.args.lists.now in
    let i = c.loop-list.list-index in
    let item = c.list-item.result in
    let p = err_from_is_err_and c.from_residual.result c.from_residual.ensures.1 in
    record {
      brings = brings_failed g.S.Store g.A.Archives.are c.args.desk.now c.bring_back.new.desk c.args.archives.now _ (map named_list_content all) c.in_err-bring_back.field-0.0 c.from_residual.result p.0 p.1
          (brings_more g.S.Store g.A.Archives.are c.args.desk.now c.loop-list.desk c.bring_back.new.desk c.args.archives.now (map named_list_content (take i all)) (named_list_content item ∷ []) (Err c.in_err-bring_back.field-0.0) c.loop-list.invariant c.in_err-bring_back.ensures.brings);
    }
