pub mod Screens
pub mod Listings
pub mod TextsDrawn
pub mod Changes
pub mod TabStops
pub mod Canvas
