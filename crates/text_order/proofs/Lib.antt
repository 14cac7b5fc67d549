-- The laws of the order, and the proofs of the functions.
pub mod Standing
pub mod Members
pub mod Heads
