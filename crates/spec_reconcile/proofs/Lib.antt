pub mod InOrder
pub mod RankOrder
