pub mod Lengths
mod Stretches
mod Regions
mod Words
mod Counts
