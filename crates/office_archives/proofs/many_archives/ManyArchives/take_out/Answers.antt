use Rattle.std.{specs.{Prelude.remove, Option.unwrap_or}, proofs.Common.{◌≡◌, ◌<◌, None, Some, option_map, refl, sym, ap, subst, ◌∙◌}}
use Rattle.office_closing.specs.Register.{register_content}
use Rattle.office_archives.specs.Shelves.{IsOpenAt, IsOpenIfKnown, IsSealedIfSaid, index_at, left_open, with_room}
use Rattle.office_archives.proofs.Rising.{all_at, at_place, leaves_open, one_at, within}
use Rattle.office_archives.proofs.many_archives.ManyArchives.take_out.Goals as goal

pub remove-requires : goal.remove-requires
remove-requires g c =
    let place = c.args.place in
    subst (λ n. c.in-Some.index < n) (sym c.args.self.now.opened.ok.0)
    (within g.S.Store place c.args.self.now.opened.items c.in-Some.index (ap (index_at place) (sym c.deref.ensures.value) ∙ sym c.index_at.ensures ∙ c.in-Some.is))

-- the one that is open
pub returns-in-Some : goal.returns-in-Some
returns-in-Some g c =
    let self = c.args.self.now in
    let place = c.args.place in
    let items = self.opened.items in
    let index = c.in-Some.index in
    let found : index_at place items ≡ Some index = ap (index_at place) (sym c.deref.ensures.value) ∙ sym c.index_at.ensures ∙ c.in-Some.is in
    let one = c.remove.result in
    let there : one.place ≡ place = at_place g.S.Store place items index one found c.remove.ensures.value in
    let left : c.remove.new.self.items ≡ left_open place items = c.remove.ensures.items ∙ sym (ap (λ o. unwrap_or (option_map (remove items) o) (with_room items)) found) in
    record {
      place = there;
      opened = λ known list are. subst (λ at. IsOpenAt g.S.Store list at one.archive.conn) there
          (all_at (IsOpenIfKnown g.S.Store g.F.Shelf.is_known list) items index one are.are_open (one_at g.S.Store place items index one found c.remove.ensures.value) (subst g.F.Shelf.is_known (sym there) known));
      said = λ are. all_at (IsSealedIfSaid g.S.Store (register_content self.register)) items index one are (one_at g.S.Store place items index one found c.remove.ensures.value);
      leaves = leaves_open g.S.Store g.F.Shelf.is_known g.F.Shelf.holds self.shelf self.shelf self.register self.register place items c.remove.new.self.items refl (λ list holds. holds) left;
    }

-- one that was opened
pub returns-in_ok-archive-in-None : goal.returns-in_ok-archive-in-None
returns-in_ok-archive-in-None g c =
    let self = c.args.self.now in
    let place = c.args.place in
    let items = self.opened.items in
    let none : index_at place items ≡ None = ap (index_at place) (sym c.deref.ensures.value) ∙ sym c.index_at.ensures ∙ c.in-None.is in
    let left : c.make_room.new.opened.items ≡ left_open place items = c.make_room.ensures ∙ sym (ap (λ o. unwrap_or (option_map (remove items) o) (with_room items)) none) in
    record {
      place = refl;
      opened = λ known list are. c.in_ok-archive-in-None.ensures.opened known list are.on_shelf;
      said = λ are found. absurd cc;
      leaves = leaves_open g.S.Store g.F.Shelf.is_known g.F.Shelf.holds self.shelf c.open.new.self self.register self.register place items c.make_room.new.opened.items refl c.open.ensures.same left;
    }

pub returns-in_err-archive-in-None-clause-leaves : goal.returns-in_err-archive-in-None-clause-leaves
returns-in_err-archive-in-None-clause-leaves g c =
    let self = c.args.self.now in
    let place = c.args.place in
    let items = self.opened.items in
    let none : index_at place items ≡ None = ap (index_at place) (sym c.deref.ensures.value) ∙ sym c.index_at.ensures ∙ c.in-None.is in
    let left : c.make_room.new.opened.items ≡ left_open place items = c.make_room.ensures ∙ sym (ap (λ o. unwrap_or (option_map (remove items) o) (with_room items)) none) in
    leaves_open g.S.Store g.F.Shelf.is_known g.F.Shelf.holds self.shelf c.open.new.self self.register self.register place items c.make_room.new.opened.items refl c.open.ensures.same left
