-- Read SeenMaps and LinkIndex first: what is looked up, and the links to owners as a member is put or removed. LinkWalks has what is found by them.
pub mod Bounds
pub mod Copies
pub mod InOrder
pub mod LinkIndex
pub mod LinkSets
pub mod LinkWalks
pub mod Namespaces
pub mod SeenMaps
pub mod Walks
