pub mod Fractions
pub mod Integers
