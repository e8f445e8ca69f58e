pub mod Lexeme
pub mod Lookahead
pub mod Reading
pub mod Parts
pub mod Exact
