mod Appending
mod Lengths
mod Telling
