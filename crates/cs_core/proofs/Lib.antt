mod Lasting
mod Picking
mod Piecing
mod Portions
pub mod Laying
mod Chaining
mod Settling
pub mod Stacking
pub mod Cutting
mod Coming
pub mod Unwinding
pub mod Turning
pub mod Carrying
pub mod Resolving
pub mod Returning
pub mod Calling
pub mod Trying
pub mod Asking
pub mod Places
pub mod Deepening
pub mod Rolling
pub mod Phases
mod Growing
pub mod Replying
pub mod Viewing
pub mod Beginning
pub mod Nexting
pub mod Stepping
