pub mod Contents
pub mod Elements
pub mod Numbers
pub mod Quick
