-- How far a text is read.
pub mod Places
