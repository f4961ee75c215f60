-- Read Cases first: of cases, the first that commands something. SetOrder has the order of sets.
pub mod Cases
pub mod HashDigits
pub mod Ended
pub mod Filled
pub mod Found
pub mod Picked
pub mod SetOrder
