pub mod Planned
pub mod Borders
