pub mod Cuts
pub mod Taken
mod Utf8Lemmas
