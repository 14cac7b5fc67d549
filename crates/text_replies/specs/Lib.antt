-- The replies to texts, and what the text calls leave.
pub mod Replies
pub mod Calls
