pub mod Allocation
pub mod Ends
pub mod Active
pub mod Scan
pub mod Steps
pub mod Arrivals
