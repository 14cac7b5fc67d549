-- The laws of one step, and the proofs of the functions.
pub mod Tracking
pub mod OneStep
