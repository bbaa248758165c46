pub mod Causes
pub mod Lowest
pub mod Lists
pub mod Chains
pub mod Nets
pub mod Verdicts
pub mod Homes
