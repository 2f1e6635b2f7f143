pub mod MemberLaws
pub mod OrderLaws
pub mod SortedLaws
pub mod WindowLaws
