pub mod Filed
pub mod Storable
pub mod Writing
