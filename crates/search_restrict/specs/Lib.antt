-- A space under an equation.
pub mod Restricted
