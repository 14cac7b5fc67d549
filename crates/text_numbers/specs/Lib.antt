-- Numbers in lines.
pub mod Numbers
