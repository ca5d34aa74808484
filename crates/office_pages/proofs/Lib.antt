mod Decoding
mod Ends
mod Growing
pub mod Plain
pub mod Sides
mod Splitting
pub mod Sums
mod Texts
pub mod Values
