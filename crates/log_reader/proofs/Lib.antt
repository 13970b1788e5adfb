pub mod Readers
pub mod Laid
pub mod Quick
