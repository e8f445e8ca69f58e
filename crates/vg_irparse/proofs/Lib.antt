pub mod Steps
pub mod Placed
pub mod Escapes
pub mod Fields
pub mod TypesComplete
pub mod TypesSound
pub mod TypesPlace
