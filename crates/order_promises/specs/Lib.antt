pub mod Strangers
pub mod Reorderings
pub mod Order
