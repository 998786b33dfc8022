pub mod Layered
pub mod Laws
pub mod Overlay
pub mod Joining
pub mod Item
