pub mod Bools
pub mod Searches
pub mod Lists
pub mod Homes
pub mod Refusals
pub mod Shapes
pub mod Marks
pub mod Tables
