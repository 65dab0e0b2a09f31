mod Lookups
mod Resolving
mod Sending
pub mod Sends
pub mod Frames
