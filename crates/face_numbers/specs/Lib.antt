-- What the entries on numbers answer.
pub mod States
pub mod Found
pub mod Stop
