pub mod Caps
pub mod Equal
pub mod Forms
pub mod Turns
