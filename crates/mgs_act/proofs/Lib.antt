pub mod Created
pub mod Marked
mod Saves
pub mod Settings
pub mod Kills
pub mod Switches
mod Through
mod Insertions
mod Rulings
pub mod Scrolls
pub mod Done
