-- The key with which a line begins.
pub mod Begins
