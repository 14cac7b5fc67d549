-- The laws of the total, and the proof of the function.
pub mod Tallying
