pub mod Line
pub mod Whole
pub mod Sections
pub mod Taking
pub mod Reading
pub mod Laws
