pub mod Answers
pub mod Bits
pub mod Events
pub mod Left
pub mod Sets
pub mod Visits
pub mod Ways
pub mod Whole
