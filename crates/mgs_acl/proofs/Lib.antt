pub mod WordLemmas
pub mod NameLemmas
pub mod Masks
pub mod RoundTrip
pub mod Printable
