-- What a client asks for, by a method, a target and a body.
pub mod Queries
pub mod PageTokens
pub mod ListQueries
pub mod DeleteOptions
pub mod ObjectRequests
pub mod Targets
