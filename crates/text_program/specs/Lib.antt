-- What a program does between its input and its output.
pub mod Answered
