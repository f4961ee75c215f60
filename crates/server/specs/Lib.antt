pub mod Pages
pub mod Initials
pub mod Replies
pub mod Standing
-- The definitions, in reading order.
pub mod PageTexts
pub mod ListTexts
