-- The laws of lengths.
pub mod Lengths
