pub mod Tables
pub mod Lexing
pub mod Front
pub mod Rows
pub mod Decode
pub mod Reading
pub mod Order
