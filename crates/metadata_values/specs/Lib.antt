pub mod Forms
pub mod Seconds
pub mod Stopwatches
