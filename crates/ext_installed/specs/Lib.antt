pub mod Instance
pub mod Installed
pub mod Resource
pub mod Laws
