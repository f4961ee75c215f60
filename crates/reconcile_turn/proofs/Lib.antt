-- Read Steps first: the next step of a turn, by how far it is. Issues has what is issued as answers come.
pub mod Turning
pub mod Firsts
pub mod Issues
pub mod Steps
pub mod PodCounts
pub mod Phases
