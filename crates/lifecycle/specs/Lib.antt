pub mod Fates
pub mod Finalizers
pub mod Options
