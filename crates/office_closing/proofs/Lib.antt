mod ClearLemmas
mod NumberLemmas
mod FileLemmas
pub mod FirstLemmas
mod PlanLemmas
mod ArrivingLemmas
mod ArrivalQuery
mod JournalLemmas
mod JudgeLemmas
mod ClosesLemmas
mod StandLemmas
mod StoppingLemmas
mod DayLemmas
pub mod WriteTexts
pub mod Created
pub mod Inserted
pub mod Committing
pub mod SoundLemmas
pub mod FoundLemmas
pub mod WaitingLemmas
pub mod DoneAwayLemmas
pub mod TextLemmas
mod SealLemmas
