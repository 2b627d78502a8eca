pub mod Packed
pub mod Seen
pub mod Tallied
