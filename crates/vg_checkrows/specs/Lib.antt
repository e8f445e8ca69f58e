pub mod Typed
pub mod Flows
pub mod Placed
