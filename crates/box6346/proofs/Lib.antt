pub mod Digits
pub mod Weights
pub mod SlotNames
