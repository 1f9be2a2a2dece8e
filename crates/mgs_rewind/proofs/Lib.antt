mod Pieces
pub mod Spelled
mod Worked
