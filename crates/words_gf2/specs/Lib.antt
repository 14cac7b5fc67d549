-- Words as vectors of bits.
pub mod Words
