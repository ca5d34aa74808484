use Rattle.std.{specs.{Io.KnownBytes.Appends, declared.io.Error.Error}, proofs.lemmas.Result.{on_ok_weaker, err_from_is_err_and}}
use Rattle.std.proofs.Common.{◌≡◌, ◌+◌, ◌++◌, ℕ, List, [], Err, length, take, drop, get_or, refl, sym, ap, subst, ◌∙◌, arith, append_assoc, length-append}
use Rattle.office_replies.specs.{Writes.{joined_parts, WritesOut}, Fronts.AppendsFront}
use Rattle.office_replies.proofs.PartLemmas.{on_err, on_err_weaker, Gathers, gathers_none, gathers_held, gathers_out, gathers_passed, ends_out, ends_together, ends_appended, ends_front, stops_out, stops_front, joined_more, joined_rest, joined_all, no_room, ok_absent, out_as, pieces_as}
use Rattle.office_replies.proofs.port.Port.write_parts.Goals.{then-has_room, else-has_room+in_ok-write_all+in_ok-write_all-2}
use Rattle.office_replies.proofs.port.Port.write_parts.Goals as goal

pub parts-init : goal.parts-init
parts-init g c = record {
  gathers = gathers_none g.W.Sink.takes g.W.Write.contents c.args.self.now.inner c.new-gathered.result.held.items c.new-gathered.ensures;
  failed = refl;
  reads = refl;
}

pub parts-preserved : goal.parts-preserved
parts-preserved g c =
    let takes = g.W.Sink.takes in
    let contents = g.W.Write.contents in
    let first = c.args.self.now.inner in
    let parts = c.args.parts.now in
    let i = c.parts.part-index in
    let part = (get_or parts i (record { ref_ptr = (0, 0); now = [] })).now in
    let held = c.parts.gathered.held.items in
    let so = c.parts.invariant.gathers in
    let more : joined_parts (take (i + 1) parts) ≡ joined_parts (take i parts) ++ part = joined_more parts i (record { ref_ptr = (0, 0); now = [] }) c.parts-test.true in
    elim c.if-has_room.branch [
      | then-has_room w ↦
          rw (w.self-is, w.gathered-is) (record {
            gathers = subst (λ (l : List ℕ). Gathers takes contents first l c.parts.self.inner w.hold.new.self.held.items) (sym more)
                (gathers_held takes contents first (joined_parts (take i parts)) c.parts.self.inner held part w.hold.new.self.held.items so w.hold.ensures);
            failed = c.parts.invariant.failed;
            reads = c.parts.invariant.reads;
          })
      | else-has_room+in_ok-write_all+in_ok-write_all-2 w ↦
          let mid = w.write_all.new.self.inner in
          let new = w.write_all-else-has_room.new.self.inner in
          let slice : w.as_slice.result.now ≡ held = w.as_slice.ensures.value in
          rw (w.self-is, w.gathered-is) (record {
            gathers = subst (λ (l : List ℕ). Gathers takes contents first l new w.clear.new.self.held.items) (sym more)
                (gathers_out takes contents first (joined_parts (take i parts)) c.parts.self.inner held part mid new w.clear.new.self.held.items so
                (out_as takes c.parts.self.inner _ held _ mid slice w.in_ok-write_all.ensures.writes)
                (subst (Appends (contents c.parts.self.inner) (contents mid)) slice w.in_ok-write_all.ensures.bytes)
                (out_as takes mid part part _ new refl w.in_ok-write_all-2.ensures.writes)
                w.in_ok-write_all-2.ensures.bytes
                (no_room c.has_room.result _ _ c.has_room.ensures.1 w.if-has_room.false)
                w.clear.ensures);
            failed = w.in_ok-write_all-2.ensures.succeeds ∙ w.in_ok-write_all.ensures.succeeds ∙ c.parts.invariant.failed;
            reads = w.in_ok-write_all-2.ensures.uncounted ∙ w.in_ok-write_all.ensures.uncounted ∙ c.parts.invariant.reads;
          })
    ]

pub returns : goal.returns
returns g c =
    let takes = g.W.Sink.takes in
    let contents = g.W.Write.contents in
    let first = c.args.self.now.inner in
    let parts = c.args.parts.now in
    let now = c.parts.self.inner in
    let new = c.write_all-2.new.self.inner in
    let held = c.parts.gathered.held.items in
    let slice : c.as_slice-2.result.now ≡ held = c.as_slice-2.ensures.value in
    let all : joined_parts (take c.parts.part-index parts) ≡ joined_parts parts = joined_all parts c.parts.part-index c.parts-test.false in
    let so : Gathers takes contents first (joined_parts parts) now held = subst (λ (l : List ℕ). Gathers takes contents first l now held) all c.parts.invariant.gathers in
    let out : WritesOut takes now held c.write_all-2.result new = subst (λ (l : List ℕ). WritesOut takes now l c.write_all-2.result new) slice c.write_all-2.ensures.writes in
    record {
      bytes = on_ok_weaker c.write_all-2.result
          (λ written. ends_appended takes contents first (joined_parts parts) now held new so (subst (Appends (contents now) (contents new)) slice written))
          c.write_all-2.ensures.bytes;
      front = on_err_weaker c.write_all-2.result _ _
          (λ written. ends_front takes contents first (joined_parts parts) now held new so (subst (AppendsFront (contents now) (contents new)) slice written))
          c.write_all-2.ensures.front;
      writes = ends_out takes contents first (joined_parts parts) now held c.write_all-2.result new so out;
      together = ends_together takes contents first (joined_parts parts) now held c.write_all-2.result new so out;
      succeeds = on_ok_weaker c.write_all-2.result (λ same. same ∙ c.parts.invariant.failed) c.write_all-2.ensures.succeeds;
      fails = c.write_all-2.ensures.fails;
      uncounted = c.write_all-2.ensures.uncounted ∙ c.parts.invariant.reads;
      unflushed = c.write_all-2.ensures.unflushed;
    }

-- what was gathered could not be written
pub returns-in_err-write_all : goal.returns-in_err-write_all
returns-in_err-write_all g c =
    let takes = g.W.Sink.takes in
    let contents = g.W.Write.contents in
    let first = c.args.self.now.inner in
    let parts = c.args.parts.now in
    let i = c.parts.part-index in
    let part = (get_or parts i (record { ref_ptr = (0, 0); now = [] })).now in
    let more = part ++ joined_parts (drop (i + 1) parts) in
    let now = c.parts.self.inner in
    let new = c.write_all.new.self.inner in
    let held = c.parts.gathered.held.items in
    let so = c.parts.invariant.gathers in
    let total : joined_parts parts ≡ joined_parts (take i parts) ++ more = joined_rest parts i (record { ref_ptr = (0, 0); now = [] }) c.parts-test.true in
    let slice : c.as_slice.result.now ≡ held = c.as_slice.ensures.value in
    let error = c.in_err-write_all.field-0.0 in
    let p = err_from_is_err_and c.from_residual.result c.from_residual.ensures.1 in
    let is : c.from_residual.result ≡ Err error = p.1 ∙ ap (λ (e : Error). Err e) p.2 in
    let full = no_room c.has_room.result _ _ c.has_room.ensures.1 c.if-has_room.false in
    record {
      bytes = ok_absent c.from_residual.result _ error is;
      front = on_err c.from_residual.result _
          (stops_front takes contents first (joined_parts (take i parts)) more (joined_parts parts) now held new total so (subst (AppendsFront (contents now) (contents new)) slice c.in_err-write_all.ensures.front));
      writes = pieces_as takes first (joined_parts parts) c.from_residual.result error new is
          (stops_out takes contents first (joined_parts (take i parts)) more (joined_parts parts) now held error new total so
          (subst (λ (l : List ℕ). WritesOut takes now l (Err error) new) slice c.in_err-write_all.ensures.writes));
      together = λ short. absurd (omega (arith, full, ap length total, ap length so.all, length-append {A = ℕ}));
      succeeds = ok_absent c.from_residual.result _ error is;
      fails = on_err c.from_residual.result _ c.in_err-write_all.ensures.fails;
      uncounted = c.in_err-write_all.ensures.uncounted ∙ c.parts.invariant.reads;
      unflushed = c.in_err-write_all.ensures.unflushed;
    }

-- it was written, and the part after it could not be
pub returns-in_err-write_all-2 : goal.returns-in_err-write_all-2
returns-in_err-write_all-2 g c =
    let takes = g.W.Sink.takes in
    let contents = g.W.Write.contents in
    let first = c.args.self.now.inner in
    let parts = c.args.parts.now in
    let i = c.parts.part-index in
    let part = (get_or parts i (record { ref_ptr = (0, 0); now = [] })).now in
    let behind = joined_parts (drop (i + 1) parts) in
    let now = c.parts.self.inner in
    let mid = c.write_all.new.self.inner in
    let new = c.write_all-else-has_room.new.self.inner in
    let held = c.parts.gathered.held.items in
    let before = c.parts.invariant.gathers in
    let most : joined_parts parts ≡ joined_parts (take i parts) ++ (part ++ behind) = joined_rest parts i (record { ref_ptr = (0, 0); now = [] }) c.parts-test.true in
    let total : joined_parts parts ≡ (joined_parts (take i parts) ++ part) ++ behind = most ∙ sym (append_assoc (joined_parts (take i parts)) part behind) in
    let slice : c.as_slice.result.now ≡ held = c.as_slice.ensures.value in
    let error = c.in_err-write_all-2.field-0.0 in
    let p = err_from_is_err_and c.from_residual-in_err-write_all-2.result c.from_residual-in_err-write_all-2.ensures.1 in
    let result = c.from_residual-in_err-write_all-2.result in
    let is : c.from_residual-in_err-write_all-2.result ≡ Err error = p.1 ∙ ap (λ (e : Error). Err e) p.2 in
    let full = no_room c.has_room.result _ _ c.has_room.ensures.1 c.if-has_room.false in
    let so : Gathers takes contents first (joined_parts (take i parts) ++ part) mid part =
    gathers_passed takes contents first (joined_parts (take i parts)) now held part mid before
    (out_as takes now _ held _ mid slice c.in_ok-write_all.ensures.writes)
    (subst (Appends (contents now) (contents mid)) slice c.in_ok-write_all.ensures.bytes) full in
    record {
      bytes = ok_absent result _ error is;
      front = on_err result _ (stops_front takes contents first (joined_parts (take i parts) ++ part) behind (joined_parts parts) mid part new total so c.in_err-write_all-2.ensures.front);
      writes = pieces_as takes first (joined_parts parts) result error new is
          (stops_out takes contents first (joined_parts (take i parts) ++ part) behind (joined_parts parts) mid part error new total so c.in_err-write_all-2.ensures.writes);
      together = λ short. absurd (omega (arith, full, ap length most, ap length before.all, length-append {A = ℕ}));
      succeeds = ok_absent result _ error is;
      fails = on_err result _ c.in_err-write_all-2.ensures.fails;
      uncounted = c.in_err-write_all-2.ensures.uncounted ∙ c.in_ok-write_all.ensures.uncounted ∙ c.parts.invariant.reads;
      unflushed = c.in_err-write_all-2.ensures.unflushed;
    }
