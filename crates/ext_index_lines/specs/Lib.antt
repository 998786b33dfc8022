pub mod Lines
pub mod Homed
pub mod HomedLaws
pub mod Homes
pub mod Out
