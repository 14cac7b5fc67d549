-- The laws of the encoding of a set, and the proofs of the functions.
pub mod Encoding
