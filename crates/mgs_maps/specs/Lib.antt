pub mod Held
pub mod Words
pub mod Table
pub mod Back
