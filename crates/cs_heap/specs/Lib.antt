pub mod Format
pub mod Object
pub mod Code
pub mod Writes
pub mod Layout
