pub mod Blocks
pub mod Feeds
pub mod Gapped
pub mod Ownership
pub mod Places
pub mod RawPlaces
