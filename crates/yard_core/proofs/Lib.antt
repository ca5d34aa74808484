pub mod Cells
pub mod Decides
pub mod LeastHeights
pub mod Placings
pub mod LawLemmas
pub mod Deciding
pub mod Exact
pub mod Puts
