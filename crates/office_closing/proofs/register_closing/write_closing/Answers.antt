use Rattle.std.proofs.Common.{map}
use Rattle.sqlite.specs.Held.{state}
use Rattle.office_closing.specs.{Changes.{unchanged, with_archive, with_segments, with_lists, with_taken, with_sealed}, Lists.list_content}
use Rattle.office_closing.{specs.{Register.{archive_content, sealed_content}, Stored.{HasRegister, HasWhole}}, proofs.Committing.{writes_next, writes_if_open}}
use Rattle.office_closing.proofs.register_closing.write_closing.Goals as goal

pub returns-clause-writes : goal.returns-clause-writes
returns-clause-writes g c =
    let s0 = state g.S.Store c.args.tx.now.conn.now in
    let s1 = state g.S.Store c.complete_tables.new.tx.conn.now in
    let s2 = state g.S.Store c.insert_archive.new.tx.conn.now in
    let s3 = state g.S.Store c.insert_segments.new.tx.conn.now in
    let s4 = state g.S.Store c.insert_lists.new.tx.conn.now in
    let s5 = state g.S.Store c.insert_all_taken.new.tx.conn.now in
    let archived = with_archive (archive_content c.args.archive.now) in
    let closed = with_segments c.args.segments.now in
    let settled = with_lists (map list_content c.args.lists.now) in
    let two = writes_next HasRegister unchanged archived s0 s1 s2 _ _ c.in_ok-complete_tables.ensures.writes (writes_if_open HasWhole unchanged archived s1 s2 _ c.in_ok-insert_archive.ensures.writes) in
    let three = writes_next HasRegister archived closed s0 s2 s3 _ _ two c.in_ok-insert_segments.ensures.writes in
    let four = writes_next HasRegister (λ content. closed (archived content)) settled s0 s3 s4 _ _ three c.in_ok-insert_lists.ensures.writes in
    let s6 = state g.S.Store c.insert_all_sealed.new.tx.conn.now in
    let known = with_taken c.args.taken.now in
    let five = writes_next HasRegister (λ content. settled (closed (archived content))) known s0 s4 s5 _ _ four c.in_ok-insert_all_taken.ensures.writes in
    writes_next HasRegister (λ content. known (settled (closed (archived content)))) (with_sealed (map sealed_content c.args.sealed.now)) s0 s5 s6 _ c.insert_all_sealed.result five c.insert_all_sealed.ensures.writes
