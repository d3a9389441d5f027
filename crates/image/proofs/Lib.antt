pub mod Looking
pub mod Told
pub mod Cutting
pub mod TradeBack
pub mod RestBack
pub mod Kept
pub mod Joining
pub mod Sized
