pub mod WroteLaws
pub mod LineLaws
