-- Read Steps first: each call, by the keys in the list and in the two sets. DelaySteps is the same of delays; WorkQueues and WorkDelays say it of work keys.
pub mod Numbers
pub mod Steps
pub mod Undone
pub mod SeenAlarms
pub mod DelaySteps
pub mod Counts
pub mod Powers
pub mod FailureCounts
pub mod WorkDelays
pub mod WorkQueues
