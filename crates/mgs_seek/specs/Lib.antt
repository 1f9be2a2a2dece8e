pub mod Acting
pub mod Beginning
pub mod Planning
pub mod Replacing
pub mod Seekers
