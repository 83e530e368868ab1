pub mod Addresses
pub mod Classes
pub mod Endings
pub mod Lent
