pub mod Places
pub mod Laws
pub mod Writes
mod OneObject
mod Decoding
mod Watching
mod Standing
mod Marks
mod Seen
