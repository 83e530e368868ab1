pub mod Neighbours
pub mod Worths
pub mod Cut
