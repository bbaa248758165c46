pub mod Chains
pub mod Views
