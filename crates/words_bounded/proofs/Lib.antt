-- The laws of tests, of bounded search, and of lists written into a buffer.

pub mod Tests
pub mod Search
pub mod Any
pub mod Front
