pub mod Choices
pub mod Rooms
pub mod Steps
