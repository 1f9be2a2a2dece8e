mod Replaying
mod Serving
mod Ending
mod Turning
