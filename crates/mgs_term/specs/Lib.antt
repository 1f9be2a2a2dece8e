pub mod Screen
pub mod Sequences
pub mod Drawing
pub mod Terminal
pub mod Automaton
