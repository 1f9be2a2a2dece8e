pub mod Acts
pub mod Chain
pub mod Changes
pub mod Kept
pub mod Rows
pub mod SetAside
pub mod Texts
