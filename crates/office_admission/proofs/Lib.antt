pub mod Adding
pub mod Admitting
pub mod Contents
pub mod Named
pub mod Takings
pub mod Forming
