-- The laws of covering and of the windows of a set.
pub mod Tail
pub mod Places
pub mod Segments
pub mod Windows
pub mod Starts
pub mod Limits
pub mod Inversion
pub mod Upright
pub mod Zero
pub mod Single
