pub mod Lexing
pub mod Piece
pub mod Front
