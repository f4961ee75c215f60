-- Read Standing first: the keys in process are those in hands. Remembering has that no key is forgotten, Gathered what a pass has seen that met others.
pub mod Standing
pub mod Told
pub mod Passing
pub mod Remembering
pub mod Attempting
pub mod Gathered
