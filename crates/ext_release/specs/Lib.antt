pub mod Value
pub mod Quoting
pub mod Line
pub mod Release
pub mod Laws
pub mod Reading
