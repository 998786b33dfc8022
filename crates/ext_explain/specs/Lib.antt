pub mod Finding
pub mod Search
pub mod Layers
pub mod Adding
pub mod Explaining
pub mod ViewChanges
pub mod Changed
pub mod Laws
