pub mod Sections
pub mod Held
pub mod Finding
pub mod Steps
pub mod Declaring
pub mod Calls
