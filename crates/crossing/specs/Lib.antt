pub mod Packing
pub mod Answers
pub mod Returns
pub mod Entries
