pub mod ReaderLaws
pub mod ListingLaws
