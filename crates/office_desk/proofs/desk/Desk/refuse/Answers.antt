use Rattle.std.proofs.Common.{◌≡◌, [], ◌∷◌, ◌++◌, ◌-◌, refl, sym, subst, ◌∙◌}
use Rattle.edi_syntax.specs.Interchange.{interchange_of}
use Rattle.office_replies.specs.Events.{delivered}
use Rattle.office_admission.specs.Setups.{setup_content}
use Rattle.office_desk.specs.Leaving.{LeavesOver}
use Rattle.office_desk.proofs.PageLemmas.{held_rows_leave}
use Rattle.office_desk.proofs.OwnNumbers.{refused_for, refused_so}
use Rattle.office_desk.proofs.DeliverLemmas.{refusal_delivered, refusal_leaves, refusal_over, refused_at, notes_memory}
use Rattle.office_desk.proofs.HoldLemmas.{held_leaves}
use Rattle.office_desk.proofs.Faults.{answered_in_order, behind_in_order, committed_in_order, refused_in_order}
use Rattle.sqlite.specs.Held.{state}
use Rattle.office_desk.proofs.desk.Desk.refuse.Goals as goal

-- A text that is refused touches nothing.
pub returns : goal.returns
returns g c = record {
  leads = λ sent refused.
      let desk = c.args.self.now in
      let text = interchange_of sent in
      let given = c.answer-answer.result in
      let answer = c.answer-answer.ensures.answer desk.setup text refused in
      let sure = c.answer-answer.ensures.sure desk.setup text refused in
      record {
        delivers = λ sound content es stands. refusal_delivered g.S.Store content es sent text given desk c.args.refusal refl stands refused answer sure;
        office = λ sound old holds. refusal_over g.S.Store old sent text given _ c.args.refusal refl (record { has = holds.has; loads = holds.loads; beside = holds.beside }) refused answer sure _ c.note_memory.ensures;
        setup = refl;
        closed = refl;
        stays = λ sound. (sound.0, sound.1);
        clean = λ clean. clean;
        crash = λ sound clean content es stands.
            refusal_leaves g.S.Store content es sent text given desk c.args.refusal refl stands refused
            (held_leaves content es (setup_content desk.setup) (state g.S.Store desk.conn) desk.beside sound.1 (λ db left. g.met.S.Store.settled desk.conn.store db sound.1 left) stands);
        office_crash = λ sound clean old holds.
            subst (λ place. LeavesOver (setup_content desk.setup) place (interchange_of sent) old given (state g.S.Store desk.conn)) (sym (refused_for desk.setup text c.args.refusal refused))
            (held_rows_leave old.rows (state g.S.Store desk.conn) (λ db left. g.met.S.Store.settled desk.conn.store db sound.1 left) holds.has);
        order = record {
          rows = λ sound content es was.
              let here = refused_at g.S.Store content es sent text desk c.args.refusal refl was.stands refused in
              answered_in_order content es sent given _ was.in_order (refused_in_order content es sent _ _ here was.in_order);
          crash = λ sound clean content es was.
              let here = refused_at g.S.Store content es sent text desk c.args.refusal refl was.stands refused in
              let s = state g.S.Store desk.conn in
              behind_in_order content es sent given s
              (committed_in_order content (es ++ delivered sent ∷ []) s (λ db left. g.met.S.Store.settled desk.conn.store db sound.1 left) (refused_in_order content es sent _ s.committed here was.in_order));
        };
        refused = λ fault e. (refl, refl, refl, refused_so desk.setup sent text c.args.refusal fault given refl refused e answer);
        sure = sure;
        noted = notes_memory given desk.last_fault _ c.note_memory.ensures;
        answered = λ clean place e now. let never = sym e ∙ refused_for desk.setup text c.args.refusal refused in absurd cc;
      };
}
