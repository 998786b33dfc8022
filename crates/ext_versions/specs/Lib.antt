pub mod Versions
pub mod Search
pub mod Laws
