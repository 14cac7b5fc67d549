-- The laws of the text calls.
pub mod Answering
pub mod Space
