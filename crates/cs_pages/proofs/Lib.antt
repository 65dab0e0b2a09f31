pub mod Lists
pub mod Links
pub mod Rings
pub mod Calls
