pub mod Attributes
pub mod Kept
