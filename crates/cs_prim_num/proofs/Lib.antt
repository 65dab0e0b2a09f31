mod Performing
pub mod Rows
