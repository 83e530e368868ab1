pub mod Answers
pub mod Decoding
pub mod Objects
pub mod Refusals
