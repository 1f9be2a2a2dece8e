pub mod Kept
pub mod Requests
