pub mod Standings
pub mod Listing
pub mod Parting
pub mod CallLemmas
pub mod Waits
pub mod Markup
mod Pages
pub mod ReplyLemmas
pub mod InterchangeLemmas
pub mod LastLemmas
