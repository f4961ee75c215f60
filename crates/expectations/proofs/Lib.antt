-- Read Flat first: a table of maps as one table. Steps has what each change does to it, Aging whose expectations age out.
pub mod Empty
pub mod Flat
pub mod SeenTexts
pub mod Steps
pub mod Ordered
pub mod Aging
pub mod AgedTexts
