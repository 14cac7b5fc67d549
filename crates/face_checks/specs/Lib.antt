-- The number of a verdict.
pub mod Verdicts
