-- What has happened, what is there at each revision, and the parts of both that are shown.
pub mod History
pub mod Events
pub mod Windows
pub mod Pages
