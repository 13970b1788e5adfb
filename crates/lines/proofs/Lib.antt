pub mod OneBit
pub mod Records
pub mod Sets
pub mod Holders
