pub mod Lists
pub mod Searches
pub mod Homes
pub mod Shapes
pub mod Answers
pub mod Refusals
