pub mod Reading
pub mod Planned
pub mod Rewriting
