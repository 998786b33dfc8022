pub mod Made
pub mod Sample
pub mod Making
pub mod Laws
