-- Read Leads first: changes that owed nothing, where each change owes the key, are none. Collecting and Deleting have the collector's first commands.
pub mod Leads
pub mod Deletes
pub mod UnderNames
pub mod ListEdits
pub mod Updates
pub mod Listed
pub mod Collecting
pub mod Deleting
pub mod Reports
pub mod Controlled
