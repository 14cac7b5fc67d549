-- The laws of digits, of ones, of parity and of sums.

pub mod Digits
pub mod Ones
pub mod Parity
pub mod Xor
