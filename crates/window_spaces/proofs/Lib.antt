-- The laws of writing and reading a space.

pub mod Storing
