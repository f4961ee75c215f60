-- Kinds, keys, JSON values and the small texts that objects carry (labels, moments, revisions, uids), and what selects objects by them.
pub mod Kinds
pub mod Keys
pub mod Values
pub mod Labels
pub mod Moments
pub mod Revisions
pub mod Uids
pub mod GeneratedNames
pub mod Selectors
pub mod SelectorTexts
pub mod SelectorFields
