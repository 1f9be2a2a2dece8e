pub mod Ports
pub mod Streams
