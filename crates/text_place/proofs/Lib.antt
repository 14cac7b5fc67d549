-- The laws of places, and the proofs of the functions.
pub mod Runs
