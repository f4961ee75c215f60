-- The definitions, in reading order.
pub mod Owing
pub mod Unchanged
pub mod Traces
pub mod Asked
pub mod Guarded
pub mod Finalizers
pub mod FinalizerLaws
pub mod Declarations
pub mod Printed
