pub mod LineLemmas
pub mod Readings
pub mod Sizes
