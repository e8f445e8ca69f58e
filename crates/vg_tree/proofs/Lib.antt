pub mod TypedLemmas
pub mod TypedNodes
pub mod TypedTrees
mod MadeLemmas
pub mod ResourceLemmas
pub mod SameLemmas
mod FormatLemmas
