-- The laws of texts in a lent buffer, and the proofs of the functions.
pub mod Storing
