pub mod Records
pub mod Holds
pub mod Victims
pub mod Premises
