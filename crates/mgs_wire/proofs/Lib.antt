pub mod Appending
pub mod Feeds
pub mod Pieces
pub mod Putting
pub mod Typing
pub mod Words
