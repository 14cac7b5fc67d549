-- The laws of forced positions.

pub mod Keeping
