pub mod Frame
pub mod Read
pub mod Stream
pub mod Join
pub mod Stops
pub mod Buffers
pub mod Cut
pub mod Lists
