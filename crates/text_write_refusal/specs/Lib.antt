-- Refusals that are written.
pub mod Refused
