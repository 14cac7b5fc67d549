-- What the entries for C and Rust answer.
pub mod Answers
