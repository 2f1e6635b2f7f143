pub mod TurnLaws
-- the definitions alone
pub mod FrameLaws
pub mod Samples
