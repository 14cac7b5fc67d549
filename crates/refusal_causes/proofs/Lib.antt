-- The laws of the refusal sheet and of writing into a lent buffer.
pub mod Sheet
pub mod Outcome
