mod Reading
mod Finding
