pub mod Refusals
pub mod Lawful
pub mod Secrecy
pub mod Purging
pub mod Holder
pub mod Apart
