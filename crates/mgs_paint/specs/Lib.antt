pub mod Painting
pub mod Operations
pub mod Changes
pub mod Repainting
