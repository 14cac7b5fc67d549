-- The laws of the whole call, and the proofs of the functions.
pub mod Forming
pub mod Calls
