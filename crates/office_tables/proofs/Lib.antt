pub mod WritesLemmas
pub mod MadeLemmas
pub mod KeyLemmas
pub mod PairLemmas
pub mod WriteLemmas
