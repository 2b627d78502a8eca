pub mod Answers
pub mod Held
pub mod Left
pub mod Theorems
