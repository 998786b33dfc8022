pub mod Limits
pub mod Destination
pub mod DropIn
pub mod Profile
pub mod Added
pub mod Entries
pub mod Tops
pub mod Attaching
