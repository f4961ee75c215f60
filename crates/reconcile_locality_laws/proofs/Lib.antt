-- Read References and Owing first: what owes a look at a key. SetTurns, ItemTurns and DeploymentTurns have what each plan reads; StillPlans joins them.
pub mod Elements
pub mod Owing
pub mod Maps
pub mod References
pub mod SetTurns
pub mod ItemTurns
pub mod DeploymentTurns
pub mod StillPlans
pub mod Settled
pub mod PlainTexts
pub mod AtPresent
pub mod SettledRollouts
