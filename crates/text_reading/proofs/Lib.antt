-- The laws of reading, and the proof of the function.
pub mod Scanning
pub mod Refusals
