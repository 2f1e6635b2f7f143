pub mod ClientHello
pub mod Reader
pub mod Report
pub mod Calls
pub mod Code
pub mod InRange
