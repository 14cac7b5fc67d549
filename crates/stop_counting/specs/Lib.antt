-- A position that is unset.
pub mod Unset
