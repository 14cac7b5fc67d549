-- The laws of accepted encodings, and the theorem.
pub mod Accepted
pub mod Whole
pub mod Enough
