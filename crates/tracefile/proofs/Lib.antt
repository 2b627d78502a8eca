pub mod Answers
pub mod Good
pub mod Listed
pub mod Loops
pub mod Worked
