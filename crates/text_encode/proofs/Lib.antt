-- The law of the head, and the proofs of the functions.
pub mod Heads
