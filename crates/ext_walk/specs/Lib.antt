pub mod Walk
pub mod Steps
pub mod Upcoming
pub mod Leads
pub mod Row
