-- Texts by their lines.
pub mod Text
