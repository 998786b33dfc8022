pub mod Keys
pub mod Verdict
pub mod Rule
