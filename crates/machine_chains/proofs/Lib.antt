-- The laws of the chains.
pub mod Causes
pub mod Slices
