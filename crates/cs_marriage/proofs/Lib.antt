pub mod Places
pub mod Objects
pub mod Agreeing
mod Making
pub mod Searching
pub mod Clearing
pub mod Based
pub mod Laws
