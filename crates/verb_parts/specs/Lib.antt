pub mod Bodies
pub mod Naming
pub mod Serves
