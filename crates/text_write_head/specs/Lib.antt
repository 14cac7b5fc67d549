-- The lines that a seed list repeats from its sheet.
pub mod Head
