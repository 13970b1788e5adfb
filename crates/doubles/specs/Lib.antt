pub mod Doubles
pub mod Trees
pub mod Turns
