-- What a reading can come to, and that its first bytes decide it.
pub mod Ahead
pub mod Counting
pub mod Enough
pub mod Values
