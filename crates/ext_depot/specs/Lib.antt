pub mod Depot
pub mod DepotView
pub mod DepotCalls
pub mod DepotText
