-- The laws of slices that are written, and the proofs of the functions.
pub mod Answering
pub mod Space
pub mod Refusals
