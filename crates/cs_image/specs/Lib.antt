pub mod Heap
pub mod Answer
pub mod Loading
