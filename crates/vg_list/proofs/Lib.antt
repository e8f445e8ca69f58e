pub mod Chains
pub mod Places
pub mod Representation
pub mod Changes
pub mod Growth
pub mod Walks
pub mod Edits
pub mod Linked
