pub mod Back
pub mod Blocks
pub mod Marks
pub mod Numbers
pub mod Performed
pub mod Primitive
pub mod Returned
pub mod Walked
