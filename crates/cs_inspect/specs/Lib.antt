pub mod Comparing
pub mod Numbering
pub mod Reading
pub mod Texts
