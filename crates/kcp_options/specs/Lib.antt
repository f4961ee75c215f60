pub mod Examples
pub mod Options
pub mod Usages
pub mod Mistakes
