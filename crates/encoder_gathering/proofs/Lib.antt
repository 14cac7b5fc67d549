-- The laws of gathering, and the proofs of the functions.
pub mod Reaching
pub mod Starts
pub mod Gathering
