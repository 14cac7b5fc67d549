-- How long the head is, and the proof of the function.
pub mod Lengths
