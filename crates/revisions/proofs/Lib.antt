pub mod SeenMaps
pub mod Histories
pub mod Walks
pub mod LastEvents
