pub mod Stores
pub mod Premises
pub mod Lent
