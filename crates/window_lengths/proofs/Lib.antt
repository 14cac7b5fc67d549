-- The laws of the lengths.

pub mod Reaching
