pub mod Candidates
pub mod Decoding
pub mod Narrowing
pub mod Overlap
pub mod Pairs
