pub mod Version
pub mod Order
pub mod Token
