pub mod Marked
mod Walking
mod Pushing
mod Arriving
mod Besides
mod Blocking
mod BlockRows
mod Closures
mod MarkRows
mod NumberRows
mod Performing
mod Pointers
mod Searches
mod Spreading
