pub mod SharesBy
