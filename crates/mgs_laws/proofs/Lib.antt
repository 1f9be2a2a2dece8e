pub mod After
mod Edits
mod Erasing
pub mod Hide
pub mod Redacted
pub mod Acting
pub mod Outcomes
pub mod Turning
pub mod Paths
pub mod LeftToDo
pub mod Ends
pub mod Led
pub mod Saves
pub mod Plays
pub mod Turned
pub mod Stepping
pub mod Outline
pub mod Unseen
pub mod Closing
pub mod Inside
pub mod Settling
pub mod Local
pub mod Follow
pub mod Apart
pub mod Purge
pub mod Holder
mod Worked
mod Prompted
mod Walked
mod Searched
mod Sought
mod Replaced
mod Macros
mod Secret
mod Panes
mod Positions
mod Runs
mod Families
mod Asked
mod Altered
mod Characters
