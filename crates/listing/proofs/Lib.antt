pub mod Decimals
pub mod NextLine
pub mod Texts
pub mod Whole
