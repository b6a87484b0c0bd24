pub mod Snapshots
pub mod Standing
pub mod Transcript
pub mod Kit
pub mod Writing
pub mod Laying
pub mod Planning
