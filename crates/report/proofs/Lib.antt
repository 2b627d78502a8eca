pub mod Parts
pub mod Traced
pub mod Listed
pub mod Answers
pub mod Worked
pub mod Never
pub mod Fits
