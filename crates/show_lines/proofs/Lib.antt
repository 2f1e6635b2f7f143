pub mod GrammarLaws
pub mod KindLaws
pub mod PartLaws
-- the definitions alone
pub mod LineLaws
pub mod NumberedLaws
-- the code
pub mod CodeLaws
pub mod Samples
