pub mod NoFloats
pub mod PutAndTaken
