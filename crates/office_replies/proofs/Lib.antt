pub mod Floats
pub mod Ready
pub mod PartLemmas
pub mod PieceLemmas
pub mod StreamLemmas
pub mod OneCut
pub mod PlaceLemmas
pub mod Plain
