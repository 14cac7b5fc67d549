-- The laws of members by number, and the proof of the function.
pub mod Numbers
