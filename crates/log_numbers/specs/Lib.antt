pub mod Reasons
pub mod Numbers
pub mod Takes
