pub mod History
pub mod Numbered
pub mod Undoing
