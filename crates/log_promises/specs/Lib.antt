pub mod Calls
pub mod Limits
pub mod Written
pub mod Places
pub mod Pieces
pub mod Writer
pub mod Words
pub mod Examples
