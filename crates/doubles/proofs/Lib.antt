pub mod Lists
pub mod Turns
pub mod Trees
pub mod Doubles
pub mod Keys
