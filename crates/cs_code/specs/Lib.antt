pub mod Bare
pub mod Gives
pub mod Built
pub mod Closures
pub mod Selectors
