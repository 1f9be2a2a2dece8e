pub mod Lengths
mod Rewrites
mod Digits
