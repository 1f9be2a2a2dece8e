pub mod Replays
pub mod Serves
pub mod Endings
pub mod Turning
