pub mod Narrowing
pub mod Recording
pub mod Typing
