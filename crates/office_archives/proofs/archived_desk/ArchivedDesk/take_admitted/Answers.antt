use Rattle.std.{specs.Prelude.nat_le, proofs.Common.{◌≡◌, ℕ, Ok, ap, sym, subst, ◌∙◌}}
use Rattle.edi_syntax.specs.{Interchange.segments_in, Envelope.header_of, Heads.head_segments}
use Rattle.office_admission.specs.{Admission.{admission, number_in}, Parties.parties_of}
use Rattle.office_loading.specs.Closed.{last_closed}
use Rattle.office_replies.specs.declared.deliver.Response.TheVariants.{NotNow}
use Rattle.office_desk.proofs.OwnNumbers.{admitted_surely, numbered}
use Rattle.office_archives.{specs.Answering.AnswersClosed, proofs.Together.{by_archives, not_now}}
use Rattle.office_archives.proofs.archived_desk.ArchivedDesk.take_admitted.Goals as goal

pub take_open-requires : goal.take_open-requires
take_open-requires g c =
    let desk = c.args.self.now.desk in
    let text = c.args.text.now in
    let partner = c.args.admitted.partner in
    let number = c.number-number.result in
    let is = c.requires.admitted in
    let place = numbered (parties_of desk.setup) text (head_segments c.head.result) partner number (c.head.ensures ∙ is.segments) c.number-number.ensures.number is.admits in
    let same : (partner, number_in (header_of (segments_in text))) ≡ (partner, number) = let e = sym is.admits ∙ place in cc in
    record { admitted = is; some = c.requires.some; is_open = ap (λ (q : ℕ × ℕ). nat_le q.1 (last_closed desk.closed partner)) same ∙ sym c.is_closed.ensures ∙ c.if-not-is_closed.true }

pub returns-then-not-is_closed : goal.returns-then-not-is_closed
returns-then-not-is_closed g c = record { leads = c.take_open.ensures.leads }

pub returns-in-Ok : goal.returns-in-Ok
returns-in-Ok g c = record {
  leads = λ sent exact.
      let old = c.args.self.now.desk in
      let P = parties_of old.setup in
      let text = c.args.text.now in
      let partner = c.args.admitted.partner in
      let number = c.number-number.result in
      let is = c.requires.admitted in
      let place = numbered P text (head_segments c.head.result) partner number (c.head.ensures ∙ is.segments) c.number-number.ensures.number is.admits in
      let here = subst (λ other. admission P other ≡ Ok (partner, number)) exact place in
      let code = c.code_of-code.result.now in
      by_archives g.S.Store g.A.Archives.is_sound g.A.Archives.are old sent partner number here (λ sound db left. g.met.S.Store.settled old.conn.store db sound.1 left)
      (sym c.is_closed.ensures ∙ c.if-not-is_closed.false) code c.code_of-code.ensures c.args.self.now.archives c.answer_closed.new.archives c.in-Ok.response
      (λ whole list are. subst (λ t. AnswersClosed list partner code number t c.in-Ok.response) exact (c.in-Ok.ensures.answers whole list are)) c.answer_closed.ensures.same c.in-Ok.ensures.now c.requires.some;
}

pub returns-in-Err : goal.returns-in-Err
returns-in-Err g c = record {
  leads = λ sent exact.
      let old = c.args.self.now.desk in
      let P = parties_of old.setup in
      let text = c.args.text.now in
      let partner = c.args.admitted.partner in
      let number = c.number-number.result in
      let is = c.requires.admitted in
      let place = numbered P text (head_segments c.head.result) partner number (c.head.ensures ∙ is.segments) c.number-number.ensures.number is.admits in
      let here = subst (λ other. admission P other ≡ Ok (partner, number)) exact place in
      let noted = c.note.ensures in
      not_now g.S.Store g.A.Archives.is_sound g.A.Archives.are old sent partner number here (λ sound db left. g.met.S.Store.settled old.conn.store db sound.1 left)
      c.args.self.now.archives c.answer_closed.new.archives c.note.new.self (admitted_surely P sent text _ NotNow exact is.admits) noted.conn noted.setup noted.closed noted.beside (c.in-Err.fault, noted.fault) c.answer_closed.ensures.same c.requires.some;
}
