pub mod Lexeme
pub mod Line
pub mod Reading
pub mod Ambiguous
pub mod Numeral
