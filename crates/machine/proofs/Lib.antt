pub mod Tables
pub mod Fits
pub mod NumbersToCheck
pub mod Determined
pub mod Alignments
pub mod Prefixes
pub mod Rising
