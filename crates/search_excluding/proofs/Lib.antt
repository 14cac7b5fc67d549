-- The laws of dead lanes.

pub mod Excluding
