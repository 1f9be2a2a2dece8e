pub mod MendFaults
pub mod Mending
pub mod Printing
pub mod Start
pub mod Trial
pub mod Unsaved
