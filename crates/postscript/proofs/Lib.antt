pub mod Bracketed
pub mod Judging
pub mod Looking
pub mod OneTurn
pub mod Runs
pub mod Taking
