pub mod Among
pub mod Cached
pub mod Rightness
