-- The laws of names, and the proofs of the functions.
pub mod Starting
pub mod Naming
pub mod Apart
pub mod Names
