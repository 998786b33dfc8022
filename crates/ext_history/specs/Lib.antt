pub mod Marks
pub mod Answers
pub mod Next
pub mod History
pub mod Laws
