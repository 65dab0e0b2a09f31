pub mod HasForm
mod Places
pub mod Assembled
mod Table
