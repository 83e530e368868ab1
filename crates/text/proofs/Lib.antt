pub mod Octals
pub mod Settled
