-- The closing stop.

pub mod Closing
