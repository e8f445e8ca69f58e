pub mod Machines
pub mod Simulation
pub mod Commuting
