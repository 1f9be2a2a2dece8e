pub mod Differences
pub mod Ends
pub mod Keeping
pub mod Sums
