pub mod Checks
pub mod Users
