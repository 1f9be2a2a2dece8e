pub mod Words
pub mod Tokens
pub mod Decoded
pub mod Numbers
