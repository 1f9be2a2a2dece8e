pub mod Listening
pub mod Peers
pub mod Turns
