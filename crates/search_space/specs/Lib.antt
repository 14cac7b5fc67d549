-- Spaces of states.
pub mod Space
