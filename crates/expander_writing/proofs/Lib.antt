-- The laws of writing, and the proofs of the functions.
pub mod Writing
pub mod Filling
