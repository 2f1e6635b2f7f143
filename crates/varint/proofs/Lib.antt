pub mod TableLaws
pub mod ByteLaws
pub mod RoundTrip
pub mod Promises
pub mod RoomLaws
pub mod Samples
