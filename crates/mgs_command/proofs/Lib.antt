mod Opened
mod Signs
