pub mod Pace
pub mod ProgressLine
pub mod Tally
