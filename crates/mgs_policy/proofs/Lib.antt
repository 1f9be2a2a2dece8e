pub mod Walks
pub mod UserLemmas
