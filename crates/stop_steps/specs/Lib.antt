-- The stop slice of a set.
pub mod Steps
pub mod Lookup
pub mod Meaning
