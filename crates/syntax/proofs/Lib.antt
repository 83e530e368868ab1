pub mod GapSteps
pub mod SkipSteps
