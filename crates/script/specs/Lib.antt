pub mod Scan
pub mod Decimal
pub mod Hex
pub mod Piece
pub mod Words
pub mod Input
