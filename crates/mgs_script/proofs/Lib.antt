pub mod Feeds
pub mod WordByWord
pub mod Labels
pub mod Utf8Words
