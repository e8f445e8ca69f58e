pub mod Breach
pub mod Fault
pub mod Order
pub mod Rule
