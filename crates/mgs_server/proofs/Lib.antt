mod Calling
mod Due
mod Logins
pub mod First
mod Moving
mod Reading
mod Turning
