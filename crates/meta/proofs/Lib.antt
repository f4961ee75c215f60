-- Read Tidied first: what is read of an object is one. StoredTexts has that a stored text is read back.
pub mod ItemTexts
pub mod LabelTexts
pub mod StoredTexts
pub mod Tidied
pub mod Tidying
pub mod WholeTexts
