-- the code
pub mod PieceLaws
pub mod EntryLaws
pub mod YieldLaws
pub mod AskLaws
pub mod OneLaws
pub mod FormLaws
-- what is well formed
pub mod BindLaws
pub mod RoundTrip
pub mod EntryTrips
pub mod BodyBack
pub mod BodyRead
pub mod BodyLaws
-- closed inputs
pub mod Samples
