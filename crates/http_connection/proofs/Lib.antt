-- Read Standing first: where a connection stands after a step. Reading and Writing are its two ways, Looks and Going those of a watch.
pub mod Reading
pub mod Readable
pub mod Writing
pub mod ListWriting
pub mod Looks
pub mod Looked
pub mod Standing
pub mod Going
