-- The laws of tables and of chosen positions.

pub mod Pulling
pub mod Filling
pub mod Choosing
pub mod Packing
