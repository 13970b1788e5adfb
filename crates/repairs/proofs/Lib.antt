pub mod Repairs
pub mod Walk
pub mod Mended
