pub mod Scripts
pub mod Words
pub mod Lines
