-- The laws of the first line of a text, and the proofs of the functions.
pub mod Splitting
