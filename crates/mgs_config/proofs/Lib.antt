pub mod RowLemmas
pub mod Firsts
pub mod Entries
pub mod Own
pub mod Told
pub mod Filling
pub mod Paths
