pub mod Choice
pub mod Room
pub mod Vacuum
pub mod Steps
pub mod Laws
