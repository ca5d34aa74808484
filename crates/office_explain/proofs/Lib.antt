pub mod SendingLemmas
pub mod SenderLemmas
pub mod Givens
pub mod Wrong
pub mod HeadingLemmas
