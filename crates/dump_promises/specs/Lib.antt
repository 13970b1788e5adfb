pub mod Checker
pub mod Accepted
pub mod Repairer
pub mod Calls
pub mod Examples
