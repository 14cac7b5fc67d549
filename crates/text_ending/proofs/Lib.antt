-- The laws of the end of a text, and the proofs of the functions.
pub mod Ends
