-- What the checks of a call with settings leave.
pub mod Formed
