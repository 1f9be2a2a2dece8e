pub mod Completions
mod Names
mod Questions
mod Characters
