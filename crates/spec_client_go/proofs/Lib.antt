-- Read KeyQueueRuns first: what each call on a queue keeps. Due and DueKeys have which keys are due.
pub mod WorkKeyOrder
pub mod Alarms
pub mod Due
pub mod DueKeys
pub mod KeyQueueRuns
pub mod WorkQueues
pub mod WorkDelays
pub mod Expected
pub mod KeysInHands
