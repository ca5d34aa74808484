-- What a set-up says, whatever memory holds it.
use Rattle.std.specs.Prelude.{ℕ, List, [], ◌∷◌, ◌++◌, map, string_bytes}
use Rattle.edi_messages.specs.{declared.code.CodeTable.CodeTable, declared.codes.PartnerKind.PartnerKind}
use Rattle.yard_core.specs.declared.plan.Block.{Block}
use Rattle.office_admission.specs.{Parties.Parties, declared.setup.Setup.Setup}
pub use Rattle.office_admission.specs.SetupAccounts.{account_contents}

-- the terminal's code, the codes of document names, the partners, the blocks, and how many visits may be recorded
pub record SetupContent : Type 0 where
  pub terminal : List ℕ
  pub codes : CodeTable
  pub partners : List (List ℕ × PartnerKind)
  pub blocks : List Block
  pub visit_limit : ℕ

abbrev pub setup_content : Setup → SetupContent
setup_content setup = record {
  terminal = string_bytes setup.terminal;
  codes = setup.codes;
  partners = account_contents setup.partners.items;
  blocks = setup.blocks.items;
  visit_limit = setup.visit_limit;
}

-- the terminal and the partners that it names
abbrev pub parties_in : SetupContent → Parties
parties_in content = record {
  terminal = content.terminal;
  partners = map (λ (account : List ℕ × PartnerKind). account.0) content.partners;
}

-- the set-up with an account more, the last of its accounts
abbrev pub setup_with_account : SetupContent → List ℕ → PartnerKind → SetupContent
setup_with_account content code kind = record content { partners = content.partners ++ (code, kind) ∷ [] }
