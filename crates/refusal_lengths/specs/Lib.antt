-- Lengths.
pub mod Lengths
