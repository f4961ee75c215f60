pub mod Codes
pub mod HistoryCodes
pub mod SelectorCodes
