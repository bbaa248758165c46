pub mod Edges
pub mod Wedges
pub mod Shapes
pub mod Views
