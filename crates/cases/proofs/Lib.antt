pub mod Answers
pub mod Counted
pub mod Packed
pub mod Reading
pub mod Sequence
