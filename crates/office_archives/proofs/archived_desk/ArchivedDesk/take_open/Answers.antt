use Rattle.std.proofs.Common.{◌≡◌, Ok, Err, sym, subst}
use Rattle.edi_syntax.specs.{Interchange.segments_in, Envelope.header_of}
use Rattle.office_admission.specs.{Admission.{admission, number_in}, Outcomes.IsAdmitted, Parties.parties_of, declared.setup.Setup.Setup}
use Rattle.office_replies.specs.declared.deliver.Response.TheVariants.{NotNow}
use Rattle.office_desk.proofs.OwnNumbers.{admitted_surely}
use Rattle.office_archives.{specs.Bringing.{BringsTogether, named_by}, proofs.Together.{by_open, not_brought}}
use Rattle.office_archives.proofs.archived_desk.ArchivedDesk.take_open.Goals as goal

pub take_admitted-requires : goal.take_admitted-requires
take_admitted-requires g c = record {
  admitted = subst (λ (s : Setup). IsAdmitted s c.args.text.now c.args.admitted) (sym (c.in-Ok.ensures.brings c.args.text.now c.requires.admitted).setup) c.requires.admitted;
}

pub returns-in-Ok : goal.returns-in-Ok
returns-in-Ok g c = record {
  leads = λ sent exact.
      let old = c.args.self.now.desk in
      let P = parties_of old.setup in
      let text = c.args.text.now in
      let partner = c.args.admitted.partner in
      let number = number_in (header_of (segments_in text)) in
      let here = subst (λ other. admission P other ≡ Ok (partner, number)) exact c.requires.admitted.admits in
      by_open g.S.Store g.A.Archives.is_sound g.A.Archives.are old c.bring_back_named.new.desk c.args.self.now.archives sent partner number here c.requires.is_open c.requires.some
      (subst (λ t. BringsTogether g.S.Store g.A.Archives.are old c.args.self.now.archives (named_by old partner t) (Ok tt) c.bring_back_named.new.desk) exact (c.in-Ok.ensures.brings text c.requires.admitted))
      c.take_admitted.result c.take_admitted.new.self (c.take_admitted.ensures.leads sent exact);
}

pub returns-in-Err : goal.returns-in-Err
returns-in-Err g c = record {
  leads = λ sent exact.
      let old = c.args.self.now.desk in
      let P = parties_of old.setup in
      let text = c.args.text.now in
      let partner = c.args.admitted.partner in
      let number = number_in (header_of (segments_in text)) in
      let is = c.requires.admitted in
      let here = subst (λ other. admission P other ≡ Ok (partner, number)) exact is.admits in
      let noted = c.note.ensures in
      not_brought g.S.Store g.A.Archives.is_sound g.A.Archives.are old c.bring_back_named.new.desk c.args.self.now.archives sent partner number here c.requires.is_open c.requires.some (Err c.in-Err.fault)
      (subst (λ t. BringsTogether g.S.Store g.A.Archives.are old c.args.self.now.archives (named_by old partner t) (Err c.in-Err.fault) c.bring_back_named.new.desk) exact (c.in-Err.ensures.brings text is))
      c.note.new.self (admitted_surely P sent text _ NotNow exact is.admits) noted.conn noted.setup noted.closed noted.beside (c.in-Err.fault, noted.fault);
}
