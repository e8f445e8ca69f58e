pub mod Description
pub mod Pipe
pub mod Hazard
pub mod Cycle
pub mod Laws
pub mod Sample
