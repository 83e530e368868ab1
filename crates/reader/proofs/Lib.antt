pub mod AtPlace
pub mod Moves
pub mod Table
