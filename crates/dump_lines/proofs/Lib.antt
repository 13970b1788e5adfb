pub mod Homes
pub mod Lines
