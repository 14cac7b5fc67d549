-- The laws of the stop slice steps and of the spare pattern.
pub mod Filter
pub mod Choice
pub mod Lookup
pub mod Stages
pub mod Halving
pub mod Spare
pub mod Meaning
