-- The laws of spaces.
pub mod Members
pub mod AllStates
pub mod Blocks
