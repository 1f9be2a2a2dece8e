pub mod Account
pub mod Details
pub mod ListChanges
pub mod RowChanges
