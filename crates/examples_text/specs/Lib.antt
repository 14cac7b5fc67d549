-- Worked texts.
pub mod Examples
