-- The numbers of the answers.
pub mod Numbers
