pub mod ListLemmas
pub mod ChoosingLemmas
pub mod RoomLemmas
pub mod VacuumLemmas
pub mod DivisionLemmas
pub mod LawsLemmas
pub mod ForCallers
