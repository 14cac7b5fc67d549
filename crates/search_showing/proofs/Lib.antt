-- The laws of showing a row.

pub mod Columns
pub mod Saying
