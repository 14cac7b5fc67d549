-- The laws of what the answer of an encoding means.
pub mod Seeds
pub mod Meaning
pub mod Calls
pub mod Limits
pub mod Inversion
