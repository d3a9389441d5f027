pub mod NewPools
