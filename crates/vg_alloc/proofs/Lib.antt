pub mod Members
pub mod Registers
pub mod Best
pub mod Taking
pub mod Sound
pub mod Whole
pub mod Start
