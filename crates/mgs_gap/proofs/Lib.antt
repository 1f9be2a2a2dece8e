pub mod Blocks
pub mod Copies
pub mod FeedEdits
pub mod FeedLines
pub mod FeedLists
pub mod FeedMoves
pub mod Marks
pub mod Ranges
pub mod Row
pub mod Runs
pub mod Sharing
pub mod Shifts
pub mod Slots
pub mod Walks
mod Gathering
