pub mod Effects
pub mod Rights
pub mod Told
