-- Read Routed first: the path of a route is read as that route. ScopesAsked has what a server takes each target for.
pub mod Segments
pub mod Routed
pub mod Asked
pub mod Options
pub mod Names
pub mod Paths
pub mod Bytes
pub mod Parameters
pub mod ScopeOptions
pub mod ScopesAsked
