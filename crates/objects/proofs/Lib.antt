pub mod Accepted
pub mod Decoded
pub mod Making
pub mod Numbers
