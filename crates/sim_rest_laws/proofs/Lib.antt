-- Read TurnSteps first: what a step makes of a turn in hand. LastTurns and Still have what is so at rest; Whole joins the laws of runs with what is left.
pub mod Kept
pub mod LastTurns
pub mod Shifted
pub mod ShiftRuns
pub mod TurnRuns
pub mod TurnSteps
pub mod OwedObjects
pub mod Owns
pub mod Still
pub mod Whole
pub mod Starts
pub mod Unmet
pub mod Yes
pub mod YesRuns
