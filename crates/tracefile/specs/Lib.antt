pub mod Refusals
pub mod File
pub mod Example
