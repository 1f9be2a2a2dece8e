pub mod Login
pub mod Parsed
pub mod Calls
pub mod Connections
pub mod Stages
pub mod Pumps
pub mod LinesRead
