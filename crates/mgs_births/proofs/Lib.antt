pub mod Tells
pub mod Reported
pub mod Unsaid
pub mod Asked
mod Kept
mod Numbers
mod Removal
