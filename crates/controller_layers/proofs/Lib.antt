mod NotedOnce
mod AnyMapped
mod OwedWithin
