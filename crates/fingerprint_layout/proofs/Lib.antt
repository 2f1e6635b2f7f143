pub mod PieceLaws
pub mod PadLaws
pub mod PlaceLaws
pub mod FoundLaws
pub mod LayoutLaws
pub mod OffsetLaws
pub mod WrittenLaws
pub mod Samples
