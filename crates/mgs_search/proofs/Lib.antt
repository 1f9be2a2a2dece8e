mod Matching
mod Edited
mod Borders
pub mod Failures
