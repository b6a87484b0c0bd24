pub mod Phases
pub mod Turn
pub mod Progress
pub mod Due
pub mod OperatingLaws
pub mod WorkedRound
pub mod Bytes
pub mod Parts
