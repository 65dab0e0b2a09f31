pub mod View
pub mod Good
pub mod Moved
pub mod Cuts
