pub mod Asking
pub mod First
