-- The refusal sheet, and what a call leaves behind.
pub mod Sheet
pub mod Outcome
