pub mod Folders
pub mod Configs
pub mod Components
pub mod Kept
pub mod Listed
pub mod Laws
