pub mod Table
pub mod Meaning
pub mod Sound
pub mod Senders
pub mod Kinds
pub mod Instances
pub mod Methods
