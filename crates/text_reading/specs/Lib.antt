-- The reading of a whole text.
pub mod Reading
