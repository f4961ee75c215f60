-- Read Wholes first: the parts of a request's reading make the whole. Found has the table of routes.
pub mod LimitTexts
pub mod TokenTexts
pub mod Wholes
pub mod Texts
pub mod Plain
pub mod Seeks
pub mod Walks
pub mod Forms
pub mod Found
pub mod PathTexts
