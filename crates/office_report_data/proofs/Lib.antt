pub mod FloatLemmas
pub mod LastFloats
pub mod LineLemmas
pub mod MemberLemmas
pub mod WholeLemmas
