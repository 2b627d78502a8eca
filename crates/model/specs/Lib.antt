pub mod Walk
pub mod Model
pub mod Evenings
pub mod Kinds
