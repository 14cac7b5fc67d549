-- Bounded search: the least and the greatest number below a bound that passes a test.
pub mod Bounded
