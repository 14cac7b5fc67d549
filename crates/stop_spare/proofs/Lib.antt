-- The laws of the spare pattern, and the proofs of the functions.
pub mod Lookup
pub mod Search
