-- The run of one seed, and the expanding of a list.
pub mod Run
pub mod Until
pub mod Expanding
pub mod LastSeed
pub mod Inversion
pub mod Sized
