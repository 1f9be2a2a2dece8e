pub mod Pieces
pub mod Walks
