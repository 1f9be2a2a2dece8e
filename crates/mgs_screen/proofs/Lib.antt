pub mod Drawings
pub mod Sights
pub mod Listings
pub mod RowPanes
pub mod TextsDrawn
pub mod Changes
pub mod Redrawn
mod TabStops
mod TabRows
mod Blanks
mod Granted
pub mod Canvas
