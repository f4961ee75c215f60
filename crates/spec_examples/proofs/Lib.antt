pub mod WorkWorked
pub mod LongLines
pub mod DeploymentsWorked
