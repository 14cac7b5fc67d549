-- What the replies to texts mean.
pub mod Sheets
pub mod Lists
pub mod Calls
