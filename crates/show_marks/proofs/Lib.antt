pub mod RunLaws
-- the definitions alone
pub mod MarkLaws
pub mod Samples
