pub mod Lateness
pub mod Firsts
pub mod Bounds
pub mod Agreeing
pub mod Timely
