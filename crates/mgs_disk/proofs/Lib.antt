mod Lengths
mod Placing
