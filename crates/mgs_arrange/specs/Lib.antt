pub mod Arranged
pub mod Arranging
pub mod Showing
pub mod Listing
