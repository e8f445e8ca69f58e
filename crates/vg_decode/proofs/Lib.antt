pub mod Found
pub mod Narrowed
pub mod Shared
pub mod FirstPair
pub mod Idle
