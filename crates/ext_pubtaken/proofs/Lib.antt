pub mod TakenLemmas
pub mod TextLemmas
