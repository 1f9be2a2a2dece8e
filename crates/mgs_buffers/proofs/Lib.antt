pub mod Edits
pub mod MarkedLemmas
pub mod Limits
pub mod Changes
pub mod Unmarked
mod Completed
pub mod Judged
pub mod Told
pub mod Finds
pub mod Placing
pub mod Places
pub mod Permitting
mod Updates
pub mod Spelled
mod Failures
