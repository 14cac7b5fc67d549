-- The laws of lanes.

pub mod Lanes
