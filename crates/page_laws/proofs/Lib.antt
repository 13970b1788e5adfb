pub mod Maps
pub mod Remap
pub mod Reaching
