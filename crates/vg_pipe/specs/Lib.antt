pub mod Trees
pub mod Seen
pub mod Run
pub mod Laws
pub mod Sample
