pub mod Writable
pub mod Tables
pub mod Lending
pub mod Changing
pub mod Taking
pub mod Records
pub mod Seeing
