pub mod Rows
pub mod Faults
pub mod Buffers
pub mod Document
pub mod Files
pub mod World
pub mod Configured
