-- The numbers that the entries for C and Rust answer.
pub mod Numbered
