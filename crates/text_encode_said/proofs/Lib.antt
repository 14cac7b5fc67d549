-- The laws of a list that is written, and the proofs of the functions.
pub mod Answering
pub mod Space
pub mod Refusals
