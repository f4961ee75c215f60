-- Read KeyOrder first: the derived orders are those of ranks and names. SeenMaps and SeenSets have maps and sets by what their keys say.
pub mod KeyOrder
pub mod MapViews
pub mod PerKinds
pub mod SeenMaps
pub mod SeenSets
pub mod SeenWorkKeys
pub mod WorkKeyOrder
