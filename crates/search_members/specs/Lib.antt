-- The members of a space by number.
pub mod Members
