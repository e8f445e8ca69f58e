pub mod Sequence
pub mod Texts
