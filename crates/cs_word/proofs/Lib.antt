mod Floor
mod Shifts
pub mod Words
pub mod Headers
