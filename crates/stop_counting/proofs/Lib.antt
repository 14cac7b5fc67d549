-- The laws of counting, and the proofs of the functions.
pub mod Counting
