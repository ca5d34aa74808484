pub mod Cascade
pub mod After
pub mod Laws
