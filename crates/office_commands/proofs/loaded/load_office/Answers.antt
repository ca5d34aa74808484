use Rattle.std.proofs.lemmas.Result.{err_from_is_err_and}
use Rattle.office_tables.proofs.{MadeLemmas.reads_on, WriteLemmas.{one_read, only_on}}
use Rattle.office_commands.proofs.RefusingLemmas.{unloaded}
use Rattle.office_commands.proofs.loaded.load_office.Goals as goal

pub returns-clause-loaded : goal.returns-clause-loaded
returns-clause-loaded g c = record {
  reads = reads_on _ c.in_ok-setup.ensures.reads;
  loads = c.in_ok-setup.ensures.loaded;
  nexts = c.in_ok-setup.ensures.nexts;
}

pub returns-clause-reads : goal.returns-clause-reads
returns-clause-reads g c = only_on _ (one_read c.in_ok-setup.ensures.reads)

pub returns-in_err-copy-clause-reads : goal.returns-in_err-copy-clause-reads
returns-in_err-copy-clause-reads g c = only_on _ (one_read c.in_ok-setup.ensures.reads)

-- ---- why it is not loaded

pub returns-in_err-setup-clause-refused : goal.returns-in_err-setup-clause-refused
returns-in_err-setup-clause-refused g c =
    let p = err_from_is_err_and c.from_residual-in_err-setup.result c.from_residual-in_err-setup.ensures.1 in
    λ clean now_open schema. rw (p.1, p.2) (unloaded _ _ _ _ c.in_ok-closed.ensures (c.in_err-setup.ensures.refused clean now_open schema))
