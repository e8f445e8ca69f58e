pub mod Unlike
pub mod Given
pub mod Follows
