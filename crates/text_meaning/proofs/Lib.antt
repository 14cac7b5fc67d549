-- What the replies to texts mean, proved.
pub mod Stops
pub mod Sheets
pub mod Lists
pub mod Calls
