pub mod Certificate
pub mod Each
pub mod Growing
pub mod Reading
pub mod Sheet
