-- What the entries for C and Rust hand to the definitions.
pub mod Values
