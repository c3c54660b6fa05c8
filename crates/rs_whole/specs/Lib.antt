pub mod Digits
pub mod Exponents
pub mod Integers
pub mod Numerals
pub mod Shifts
pub mod Spaces
pub mod Wholes
