pub mod Doing
pub mod Performing
