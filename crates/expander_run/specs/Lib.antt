-- What one seed delivers, as the code's answer.
pub mod Told
