pub mod Number
pub mod Piece
