pub mod Example
pub mod Judged
