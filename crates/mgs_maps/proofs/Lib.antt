pub mod Rows
pub mod KeyRules
pub mod Sequenced
pub mod Named
pub mod Characters
pub mod Inserting
