pub mod Changes
pub mod Told
pub mod Walking
pub mod Lines
pub mod Laws
