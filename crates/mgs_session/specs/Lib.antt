pub mod Playing
pub mod Replacing
pub mod Sessions
pub mod Seeking
