use Rattle.std.proofs.Common.{Ok, map, take}
use Rattle.office_archives.specs.Bringing.{BringsTogether}
use Rattle.office_parts.specs.Named.{named_list_content}
use Rattle.office_archives.proofs.bringing.bring_back_all.Given as goal

abbrev pub invariant-loop-list : goal.invariant-loop-list
invariant-loop-list g l = BringsTogether g.S.Store g.A.Archives.are l.fn.desk l.fn.archives (map named_list_content (take l.list-index l.lists)) (Ok tt) l.desk
