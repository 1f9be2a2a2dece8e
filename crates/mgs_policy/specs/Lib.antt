pub mod Walk
pub mod Groups
pub mod Directories
