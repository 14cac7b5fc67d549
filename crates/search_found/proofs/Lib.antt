-- The laws of what a search finds, and of the clear members of a space.

pub mod Finding
pub mod Passing
