pub mod Deletions
pub mod SeenTasks
