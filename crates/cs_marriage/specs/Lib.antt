pub mod Place
pub mod Agree
pub mod Marriage
