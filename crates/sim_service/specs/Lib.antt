pub mod Laws
pub mod SimulationStates
pub mod Refusals
pub mod Ready
pub mod Texts
