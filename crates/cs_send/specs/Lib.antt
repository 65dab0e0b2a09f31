pub mod Resolved
pub mod Sent
