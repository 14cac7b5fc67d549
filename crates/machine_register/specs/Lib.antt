-- The shift register.
pub mod Register
