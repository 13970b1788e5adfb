pub mod Rules
pub mod Checker
pub mod Mending
pub mod Repairer
pub mod Calls
pub mod Accepted
pub mod Examples
