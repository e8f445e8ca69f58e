pub mod Tests
pub mod Passed
pub mod Taking
pub mod Sound
pub mod Following
pub mod Primary
pub mod Complete
pub mod Steps
