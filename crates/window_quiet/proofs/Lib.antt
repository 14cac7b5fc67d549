-- The laws of quiet states.

pub mod Quiet
