pub mod Entry
pub mod Sums
pub mod Manifest
pub mod Merging
pub mod Sorting
pub mod Reading
pub mod Laws
