pub mod ScanLaws
pub mod DecimalLaws
pub mod HexLaws
pub mod PieceLaws
pub mod Samples
pub mod WordLaws
pub mod InputLaws
