pub mod Words
pub mod Numbers
pub mod Kinds
pub mod Fields
pub mod Lines
