pub mod Heights
pub mod PlaceLists
pub mod BufferGone
