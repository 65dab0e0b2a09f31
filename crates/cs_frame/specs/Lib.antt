pub mod Frame
pub mod Page
pub mod Layout
pub mod Written
