pub mod CallLaws
pub mod ReadLaws
pub mod ReportLaws
pub mod Samples
