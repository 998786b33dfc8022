pub mod Going
pub mod State
pub mod Least
pub mod Detaching
pub mod Laws
