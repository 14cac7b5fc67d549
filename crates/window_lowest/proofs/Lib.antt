-- The laws of covering by tables, and of the seed.

pub mod Covering
pub mod Seeds
