pub mod Rules
pub mod Asking
