pub mod Checked
pub mod Inside
pub mod Views
