pub mod Sections
pub mod Index
pub mod ValidIndex
pub mod Faulty
pub mod Reading
pub mod Items
pub mod Laws
pub mod IndexLaws
