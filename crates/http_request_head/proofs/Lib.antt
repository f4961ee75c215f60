-- Read Wholes first: what is found stays found, whatever follows.
pub mod Ends
pub mod Cuts
pub mod Wholes
pub mod Numbers
pub mod Values
