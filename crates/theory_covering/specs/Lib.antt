-- Covering, the rules of windows, the windows of a set and of its starts, and the seed of a single window.
pub mod Covering
pub mod Rules
pub mod Windows
pub mod Starts
pub mod Inversion
pub mod Single
