-- Which causes hold for what each kind of call hands in.
pub mod Calls
