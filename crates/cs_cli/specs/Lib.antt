pub mod LineApp
pub mod Told
pub mod Meaning
pub mod Possible
pub mod Answer
pub mod Building
pub mod Loading
