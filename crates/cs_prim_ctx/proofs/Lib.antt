mod Fields
pub mod Performing
mod Rows
