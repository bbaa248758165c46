pub mod Ring
pub mod Machine
pub mod Signs
