pub mod MemberLaws
pub mod MarkLaws
pub mod OneParameter
pub mod ReadingLaws
pub mod LaterLaws
pub mod AskedLaws
pub mod ShortParameter
pub mod Samples
