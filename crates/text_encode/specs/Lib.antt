-- The reply to what a sheet says.
pub mod Sheet
