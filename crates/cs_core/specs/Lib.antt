pub mod Pieces
pub mod Numbers
pub mod Stacked
pub mod Stepped
pub mod Deep
pub mod VmParts
pub mod Running
