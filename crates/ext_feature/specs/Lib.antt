pub mod Errors
pub mod Files
pub mod Features
pub mod Chosen
pub mod Active
pub mod Steps
pub mod Reading
pub mod Laws
