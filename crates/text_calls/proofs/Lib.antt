-- The laws of the call, and the proofs of the functions.
pub mod Concluding
pub mod Space
pub mod Refusals
