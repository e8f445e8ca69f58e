pub mod Meaning
pub mod Machine
pub mod Diagram
pub mod Agreement
pub mod Adding
