-- Texts in a lent buffer.
pub mod Stored
