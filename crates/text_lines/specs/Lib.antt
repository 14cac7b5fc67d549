-- What a line of a text says by its form.
pub mod Form
