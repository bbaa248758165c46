pub mod Members
pub mod Following
pub mod Linking
pub mod Lows
pub mod Passing
pub mod Judgement
pub mod Ranks
pub mod Refusing
