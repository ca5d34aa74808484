use Rattle.std.proofs.Common.{◌≡◌, [], ◌∷◌, ◌++◌, Ok, Err, ◌-◌, get_or, string_bytes, arith, refl, sym, subst, ◌∙◌}
use Rattle.std.proofs.lemmas.Option.{slice_get-get_or}
use Rattle.edi_syntax.{specs.{Interchange.interchange_of, Envelope.header_of, Heads.head_segments}, proofs.BlockLemmas.control_number_within}
use Rattle.office_replies.specs.declared.deliver.Response.TheVariants.{NotNow}
use Rattle.office_admission.specs.Parties.{parties_of}
use Rattle.office_admission.specs.Setups.{setup_content}
use Rattle.office_admission.specs.Admission.{admission}
use Rattle.office_loading.specs.Closed.{closed_content}
use Rattle.office_desk.specs.{Crashes.Leaves, Kept.IsNotedFor, Noting.{IsNow, NotesFault}, Leaving.{LeavesIt, LeavesItOrNot, LeavesOver}}
use Rattle.office_desk.proofs.OwnNumbers.{code_at, admitted_surely, never_refused, numbered}
use Rattle.office_desk.proofs.LookLemmas.{noted_fault, noted_told}
use Rattle.office_desk.proofs.DeliverLemmas.{comes_for, answers_over, not_now_surely, notes_none, taken_in, not_taken}
use Rattle.office_desk.proofs.{HoldLemmas.{answered_behind, held_leaves}, PageLemmas.{answered_over, held_rows_leave}}
use Rattle.office_desk.proofs.Faults.{behind_in_order, committed_in_order, now_in_order}
use Rattle.partner_core.specs.Deliveries.{delivery}
use Rattle.sqlite.specs.Held.{state}
use Rattle.office_desk.proofs.desk.Desk.take_admitted.Goals as goal

pub take_in-taken-requires-clause-delivered : goal.take_in-taken-requires-clause-delivered
take_in-taken-requires-clause-delivered g c =
    let within = control_number_within (header_of (head_segments c.head.result)) c.number-number.result c.number-number.ensures.number in
    record { from_one = within.0; number = within.1; admitted = c.requires.admitted }

-- ---- one that is admitted, and was taken in

pub returns-in-Ok : goal.returns-in-Ok
returns-in-Ok g c = record {
  leads = λ sent exact.
      let desk = c.args.self.now in
      let text = c.args.text.now in
      let given = c.in-Ok.response in
      let admitted = c.args.admitted in
      let partner = admitted.partner in
      let number = c.number-number.result in
      let is = c.requires.admitted in
      let accounts = desk.setup.partners.items in
      let account = get_or accounts (partner - 1) c.index-accounts-place.result in
      let found = slice_get-get_or accounts (partner - 1) c.index-accounts-place.result (omega (arith, is.from_one, is.known)) in
      let named : c.as_str-code.result.now ≡ string_bytes account.code = rw c.as_slice-accounts.ensures at c.as_str-code.ensures.value in
      let code = named ∙ sym (code_at accounts partner account is.from_one found) in
      let place = numbered (parties_of desk.setup) text (head_segments c.head.result) partner number (c.head.ensures ∙ is.segments) c.number-number.ensures.number is.admits in
      let handed = noted_told c.take_in-taken.result _ given _ c.in-Ok.ensures in
      let taken : c.take_in-taken.result ≡ Ok given = handed.0 in
      let now : IsNow given = rw taken at c.take_in-taken.ensures.now in
      let takes = rw taken at c.take_in-taken.ensures.takes in
      let in_order = rw taken at c.take_in-taken.ensures.in_order in
      let ends = c.take_in-taken.ensures.ends in
      let after = c.take_in-taken.new in
      record {
        delivers = λ sound content es stands.
            taken_in g.S.Store content es sent text given desk (state g.S.Store after.conn).committed after.beside partner number c.as_str-code.result.now exact stands place code
            (λ stands comes. takes.events sound.0 sound.1 content es stands sent comes);
        office = λ sound old holds. answers_over g.S.Store old sent text given _ partner number c.as_str-code.result.now exact place code (takes.office sound.0 sound.1 old holds);
        setup = refl;
        closed = refl;
        stays = λ sound. (ends.clean sound.0, ends.was_open sound.0 sound.1);
        clean = ends.clean;
        crash = λ sound clean content es stands.
            let leaves : Leaves content es (state g.S.Store desk.conn) =
            held_leaves content es (setup_content desk.setup) (state g.S.Store desk.conn) desk.beside sound.1 (λ db left. g.met.S.Store.settled desk.conn.store db sound.1 left) stands in
            answered_behind content es sent given (state g.S.Store after.conn)
            (takes.crash clean sound.1 content es sent stands leaves (comes_for g.S.Store content es sent text desk partner number exact stands place));
        office_crash = λ sound clean old holds.
            let leaves = held_rows_leave old.rows (state g.S.Store desk.conn) (λ db left. g.met.S.Store.settled desk.conn.store db sound.1 left) holds.has in
            let content = setup_content desk.setup in
            let there = subst (λ other. admission (parties_of desk.setup) other ≡ Ok (partner, number)) exact place in
            subst (λ at. LeavesOver content at (interchange_of sent) old given (state g.S.Store after.conn)) (sym there)
            (answered_over content (partner, number) (interchange_of sent) old given (state g.S.Store after.conn)
            (subst (λ t. LeavesIt content (delivery partner number t) old (state g.S.Store after.conn)) exact (takes.office_crash clean sound.1 old holds leaves)));
        order = record {
          rows = λ sound content es was.
              now_in_order content es sent given _ now
              (in_order.rows sound.0 sound.1 content es sent was.stands was.in_order (comes_for g.S.Store content es sent text desk partner number exact was.stands place));
          crash = λ sound clean content es was.
              behind_in_order content es sent given (state g.S.Store after.conn)
              (in_order.crash clean sound.1 content es sent was.stands was.in_order
              (committed_in_order content es (state g.S.Store desk.conn) (λ db left. g.met.S.Store.settled desk.conn.store db sound.1 left) was.in_order)
              (comes_for g.S.Store content es sent text desk partner number exact was.stands place));
        };
        refused = λ fault e. absurd (never_refused (parties_of desk.setup) sent text _ fault exact is.admits e);
        sure = admitted_surely (parties_of desk.setup) sent text _ given exact is.admits;
        noted = subst (NotesFault given desk.last_fault) (sym handed.1) (notes_none given desk.last_fault now);
        answered = λ clean other e is_now. (clean, (rw taken at c.take_in-taken.ensures.is_open) clean);
      };
}

-- ---- one that is admitted, and could not be taken in now

pub returns-in-Err : goal.returns-in-Err
returns-in-Err g c = record {
  leads = λ sent exact.
      let desk = c.args.self.now in
      let text = c.args.text.now in
      let partner = c.args.admitted.partner in
      let number = c.number-number.result in
      let is = c.requires.admitted in
      let P = parties_of desk.setup in
      let place = numbered P text (head_segments c.head.result) partner number (c.head.ensures ∙ is.segments) c.number-number.ensures.number is.admits in
      let met = noted_fault c.take_in-taken.result _ _ _ c.in-Err.ensures in
      let taken : c.take_in-taken.result ≡ Err met.0 = met.1 in
      let takes = rw taken at c.take_in-taken.ensures.takes in
      let in_order = rw taken at c.take_in-taken.ensures.in_order in
      let ends = c.take_in-taken.ensures.ends in
      let after = c.take_in-taken.new in
      let surely = admitted_surely P sent text _ NotNow exact is.admits in
      record {
        delivers = λ sound content es stands. not_taken g.S.Store content es sent desk (state g.S.Store after.conn).committed after.beside stands surely (takes.events sound.0 sound.1 content es);
        office = λ sound old holds.
            let there = subst (λ other. admission P other ≡ Ok (partner, number)) exact place in
            let by = takes.office sound.0 sound.1 old holds in (
              not_now_surely P (interchange_of sent) surely,
              subst (λ place. IsNotedFor (closed_content desk.closed) place old.rows c.noted.new.last_fault) (sym there) (met.0, met.2, by.0),
              by.1,
            );
        setup = refl;
        closed = refl;
        stays = λ sound. (ends.clean sound.0, ends.was_open sound.0 sound.1);
        clean = ends.clean;
        crash = λ sound clean content es stands.
            let leaves : Leaves content es (state g.S.Store desk.conn) =
            held_leaves content es (setup_content desk.setup) (state g.S.Store desk.conn) desk.beside sound.1 (λ db left. g.met.S.Store.settled desk.conn.store db sound.1 left) stands in
            takes.crash clean sound.1 content es sent stands leaves (comes_for g.S.Store content es sent text desk partner number exact stands place);
        office_crash = λ sound clean old holds.
            let leaves = held_rows_leave old.rows (state g.S.Store desk.conn) (λ db left. g.met.S.Store.settled desk.conn.store db sound.1 left) holds.has in
            let content = setup_content desk.setup in
            let there = subst (λ other. admission P other ≡ Ok (partner, number)) exact place in
            subst (λ at. LeavesOver content at (interchange_of sent) old NotNow (state g.S.Store after.conn)) (sym there)
            (subst (λ t. LeavesItOrNot content (delivery partner number t) old (state g.S.Store after.conn)) exact (takes.office_crash clean sound.1 old holds leaves));
        order = record {
          rows = λ sound content es was.
              in_order.rows sound.0 sound.1 content es sent was.stands was.in_order (comes_for g.S.Store content es sent text desk partner number exact was.stands place);
          crash = λ sound clean content es was.
              in_order.crash clean sound.1 content es sent was.stands was.in_order
              (committed_in_order content es (state g.S.Store desk.conn) (λ db left. g.met.S.Store.settled desk.conn.store db sound.1 left) was.in_order)
              (comes_for g.S.Store content es sent text desk partner number exact was.stands place);
        };
        refused = λ fault e. absurd (never_refused P sent text _ fault exact is.admits e);
        sure = surely;
        noted = (met.0, met.2);
        answered = λ clean other e is_now. absurd is_now;
      };
}
