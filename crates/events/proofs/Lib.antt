pub mod Answers
pub mod Settled
pub mod Stale
