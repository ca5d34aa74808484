-- The state as a value of models.
use Rattle.std.specs.{Prelude.{ℕ, List, refl}, Coded.{Coded, code_by, coded×, coded_list, coded_ℕ}}
use Rattle.edi_messages.specs.{declared.code.CodeTable.CodeTable, declared.codes.PartnerKind.PartnerKind}
use Rattle.yard_core.specs.declared.plan.Block.{Block}
use Rattle.terminal_core.specs.{Codes.terminal_code, State.TerminalState}
use Rattle.office_admission.specs.{Parties.Parties, Taking.MachineState}
use Rattle.edi_messages.specs.contracts.code.CodeTable as tables
use Rattle.edi_messages.specs.contracts.codes.PartnerKind as kinds
use Rattle.yard_core.specs.contracts.plan.Block as blocks

abbrev pub parties_code : Coded Parties
parties_code =
    code_by (List ℕ × List (List ℕ)) (coded× (coded_list coded_ℕ) (coded_list (coded_list coded_ℕ)))
    (λ p. (p.terminal, p.partners)) (λ p. record { terminal = p.0; partners = p.1 }) (λ _. refl)

abbrev pub MachineParts : Type 0
MachineParts = Parties × (CodeTable × (List PartnerKind × (List Block × (ℕ × TerminalState))))

abbrev pub machine_code : Coded MachineState
machine_code =
    code_by MachineParts
    (coded× parties_code
    (coded× tables.the_row.coded
    (coded× (coded_list kinds.the_row.coded)
    (coded× (coded_list blocks.the_row.coded) (coded× coded_ℕ terminal_code)))))
    (λ m. (m.parties, (m.codes, (m.kinds, (m.blocks, (m.visit_limit, m.terminal))))))
    (λ p. record {
      parties = p.0;
      codes = p.1.0;
      kinds = p.1.1.0;
      blocks = p.1.1.1.0;
      visit_limit = p.1.1.1.1.0;
      terminal = p.1.1.1.1.1;
    })
    (λ _. refl)
