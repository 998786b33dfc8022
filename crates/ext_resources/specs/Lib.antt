pub mod Wanted
pub mod Steps
pub mod Told
pub mod Resources
pub mod Laws
