-- What the contracts of `density_trace` cite.
pub mod Trace
