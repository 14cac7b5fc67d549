-- The text call.
pub mod Texts
