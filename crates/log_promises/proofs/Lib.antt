-- numbers and entries
pub mod Numbers
pub mod Fits
pub mod NumbersRead
pub mod Decoded
pub mod Entered
-- logs
pub mod Come
pub mod Written
pub mod Refusals
pub mod Judged
pub mod OneEncoding
pub mod Places
pub mod Pieces
pub mod Writer
-- what they speak of
pub mod Limits
pub mod Examples
pub mod Words
