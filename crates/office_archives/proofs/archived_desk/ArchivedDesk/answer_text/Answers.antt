use Rattle.std.proofs.Common.{arith, subst}
use Rattle.edi_syntax.specs.Interchange.{interchange_of}
use Rattle.office_admission.specs.Outcomes.{IsRefused, fault_in}
use Rattle.office_desk.proofs.OwnNumbers.{refused_for}
use Rattle.office_archives.proofs.{Alone.alone_leads, Beside.none_there, Together.by_desk}
use Rattle.office_archives.proofs.archived_desk.ArchivedDesk.answer_text.Goals as goal

-- there is no archive
pub returns-then-count-eq0 : goal.returns-then-count-eq0
returns-then-count-eq0 g c =
    let self = c.args.self.now in
    record {
      leads = alone_leads g.S.Store g.A.Archives.is_sound g.A.Archives.are self.desk self.archives c.args.delivered.now c.deliver.result c.deliver.new.self c.deliver.ensures
          (λ list these. none_there list c.count.result (c.count.ensures list these) c.if-count-eq0.true);
    }

pub take_admitted-requires : goal.take_admitted-requires
take_admitted-requires g c = record {
  admitted = c.in-Ok.ensures.ok;
  some = λ none. absurd (omega (arith, c.if-count-eq0.false, c.count.ensures _ none));
}

pub returns-in-Ok : goal.returns-in-Ok
returns-in-Ok g c = record { leads = c.take_admitted.ensures.leads c.args.delivered.now c.interchange_text-text.ensures.exact }

pub returns-in-Err : goal.returns-in-Err
returns-in-Err g c =
    let old = c.args.self.now.desk in
    let sent = c.args.delivered.now in
    let refused = subst (λ text. IsRefused old.setup text c.in-Err.refusal) c.interchange_text-text.ensures.exact c.in-Err.ensures.err in
    record {
      leads = by_desk g.S.Store g.A.Archives.is_sound g.A.Archives.are old c.args.self.now.archives sent c.refuse.result c.refuse.new.self (c.refuse.ensures.leads sent refused)
          (fault_in c.in-Err.refusal) (refused_for old.setup (interchange_of sent) c.in-Err.refusal refused);
    }
