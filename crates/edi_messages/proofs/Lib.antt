pub mod SurveyLemmas
pub mod DetailLemmas
pub mod WalkLemmas
pub mod SameSegments
pub mod WritableContrl
pub mod ContrlFaults
pub mod OrderForms
