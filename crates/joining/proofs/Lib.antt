pub mod Families
pub mod PartSearch
