-- The laws of what a row forces.

pub mod Entering
pub mod Forcing
