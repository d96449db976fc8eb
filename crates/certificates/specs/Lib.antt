pub mod Accepted
pub mod Certificate
