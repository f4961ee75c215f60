pub mod Digits
pub mod Forms
pub mod Hexadecimal
pub mod Splits
mod Texts
mod Stopwatches
