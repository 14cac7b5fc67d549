-- Tables of masks pulled back through the steps of a register, and the masks and bits of a pattern.

pub mod Rows
pub mod Chosen
pub mod Code
