pub mod Through
pub mod Fields
pub mod Tops
pub mod Refusing
pub mod Looking
pub mod Adding
pub mod Closing
pub mod Enclosing
mod Selecting
