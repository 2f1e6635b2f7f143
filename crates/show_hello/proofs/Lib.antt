pub mod TurnLaws
pub mod WholeLaws
-- the definitions alone
pub mod MarkLaws
pub mod Samples
