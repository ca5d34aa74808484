use Rattle.std.proofs.Common.{refl}
use Rattle.office_archives.proofs.Rising.{shelved_more, shelved_same}
use Rattle.office_archives.proofs.many_archives.ManyArchives.put_back.Goals as goal

pub returns-clause-same : goal.returns-clause-same
returns-clause-same g c list are few open_ sealed =
    let self = c.args.self.now in
    shelved_more g.S.Store g.F.Shelf.is_known g.F.Shelf.holds list self.shelf self.shelf self.register self.register self.opened.items _ c.args.opened are refl are.on_shelf c.in_ok-push.ensures.items few open_ sealed

pub returns-in_err-push-clause-same : goal.returns-in_err-push-clause-same
returns-in_err-push-clause-same g c list are few open_ sealed =
    let self = c.args.self.now in
    shelved_same g.S.Store g.F.Shelf.is_known g.F.Shelf.holds list self.shelf self.shelf self.register self.register self.opened.items _ are refl are.on_shelf c.in_err-push.ensures.items
