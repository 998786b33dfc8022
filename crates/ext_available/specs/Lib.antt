pub mod Resource
pub mod Offers
pub mod Candidates
pub mod Reading
pub mod Available
pub mod Laws
